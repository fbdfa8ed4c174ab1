-- Believed: the image of a state, and the state that an image starts.
use Rattle.std.specs.Prelude.{[]}
use Rattle.escrow_machine.specs.State.{State}
use Rattle.escrow_transcript.specs.declared.image.Image.{Image}

-- what a state holds apart from what is open: tables, rows and the next id
abbrev pub image_of : State → Image
image_of s = record { catalog = s.catalog; rows = s.rows; next_id = s.next_id }

-- the state of a database that holds this, in which nothing is open
abbrev pub started : Image → State
started image =
    record { catalog = image.catalog; rows = image.rows; reservations = []; savepoints = []; next_id = image.next_id }
