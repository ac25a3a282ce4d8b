-- A text that is written line by line.
use Rattle.std.proofs.Common.{◌≡◌, ◌+◌, ℕ, List, [], ◌∷◌, ◌++◌, Option, sym, ap, subst, ◌∙◌, append_assoc}
use Rattle.std.specs.Io.KnownBytes.{Appends}
use Rattle.std.proofs.KnownBytes.{Appends-trans}
use Rattle.pcap_trace.specs.Devices.{AppendsFront}
use Rattle.pcap_trace.proofs.Sent.{AppendsFront-longer, AppendsFront-then, SentUpTo}
use Rattle.pcap_bench.specs.Showing.{shown_frame, shown_frames}

pub SentUpTo-frame : (a b : Option (List ℕ)) (bytes end : List ℕ) (n : ℕ) (frames rest : List (List ℕ)) (frame : List ℕ)
    → frames ≡ frame ∷ rest → SentUpTo a b bytes (shown_frames n frames ++ end)
    → SentUpTo a b bytes (shown_frame n frame ++ (shown_frames (n + 1) rest ++ end))
SentUpTo-frame a b bytes end n frames rest frame is sent =
    subst (SentUpTo a b bytes)
    (ap (λ (fs : List (List ℕ)). shown_frames n fs ++ end) is ∙ append_assoc (shown_frame n frame) (shown_frames (n + 1) rest) end) sent

pub SentUpTo-none : (a b : Option (List ℕ)) (bytes end : List ℕ) (n : ℕ) (frames : List (List ℕ)) → frames ≡ []
    → SentUpTo a b bytes (shown_frames n frames ++ end) → SentUpTo a b bytes end
SentUpTo-none a b bytes end n frames is sent =
    subst (SentUpTo a b bytes) (ap (λ (fs : List (List ℕ)). shown_frames n fs ++ end) is) sent

pub SentUpTo-line : (a b c : Option (List ℕ)) (bytes line rest : List ℕ) → SentUpTo a b bytes (line ++ rest) → Appends b c line
    → SentUpTo a c bytes rest
SentUpTo-line a b c bytes line rest sent more = (
  sent.0 ++ line,
  sent.1 ∙ sym (append_assoc sent.0 line rest),
  Appends-trans a b c sent.0 line sent.2 more,
)

pub SentUpTo-stops : (a b c : Option (List ℕ)) (bytes line : List ℕ) → SentUpTo a b bytes line → AppendsFront b c line
    → AppendsFront a c bytes
SentUpTo-stops a b c bytes line sent part = subst (AppendsFront a c) (sym sent.1) (AppendsFront-then a b c sent.0 line sent.2 part)

pub SentUpTo-stops_within : (a b c : Option (List ℕ)) (bytes line rest : List ℕ) → SentUpTo a b bytes (line ++ rest) → AppendsFront b c line
    → AppendsFront a c bytes
SentUpTo-stops_within a b c bytes line rest sent part =
    SentUpTo-stops a b c bytes (line ++ rest) sent (AppendsFront-longer b c line rest part)
