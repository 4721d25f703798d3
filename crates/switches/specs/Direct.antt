-- The direct contact: a yes or no, always free.
use Rattle.std.specs.Prelude.{Bool, true, false}
use Rattle.switches.specs.declared.direct.DirectContact.{DirectContact}
use Rattle.switches.specs.Model.{Model}

abbrev pub contact_at : Bool → DirectContact
contact_at b = record { closed = b }

abbrev pub direct : Model DirectContact
direct = record {
  contact = λ s. s.closed;
  free = λ s. true;
  ticked = λ s t. s;
  closed = λ s. contact_at true;
  opened = λ s. contact_at false;
}
