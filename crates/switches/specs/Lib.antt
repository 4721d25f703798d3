pub mod Direct
pub mod Drive
pub mod Model
pub mod Rest
