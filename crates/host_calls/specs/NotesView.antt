-- The value of a `Noted` from its private fields, and the invariant of these fields (our choice).
use Rattle.std.specs.Prelude.{◌≤◌, vec_capacity}
use Rattle.host_calls.specs.Notes.{NotesFit, Notes}
use Rattle.host_calls.specs.declared.noting.Noted.TheInside.{Inside}

-- the value of a `Noted` in contracts
abbrev pub notes_of : Inside → Notes
notes_of inside = record { host = inside.host; most = inside.most; put = inside.put; holding = inside.holding.items }

-- the list of frames has room for `most` frames, and the notes fit (`NotesFit`)
pub record NotesHaveRoom (inside : Inside) : Type 0 where
  pub most : inside.most ≤ vec_capacity inside.holding
  pub within : NotesFit (notes_of inside)
