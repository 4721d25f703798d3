-- The drive word: hexadecimal 00FF is closed, any other word open; always free.
use Rattle.std.specs.Prelude.{ℕ, true, ◌==◌}
use Rattle.switches.specs.declared.drive.DriveWord.{DriveWord}
use Rattle.switches.specs.Model.{Model}

abbrev pub word_at : ℕ → DriveWord
word_at w = record { word = w }

abbrev pub drive : Model DriveWord
drive = record {
  contact = λ s. (s.word == 0x00FF);
  free = λ s. true;
  ticked = λ s t. s;
  closed = λ s. word_at 0x00FF;
  opened = λ s. word_at 0xFF00;
}
