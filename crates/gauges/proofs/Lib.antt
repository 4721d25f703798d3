pub mod FloatRange
pub mod Floor
pub mod Word
