-- The loop that writes the lines of hosts to a sink.
use Rattle.std.proofs.Common.{◌≡◌, ℕ, List, [], ◌∷◌, ◌++◌, Option, sym, ap, subst, ◌∙◌, append-nil, append_assoc}
use Rattle.std.specs.Io.KnownBytes.{Appends}
use Rattle.std.specs.List.{flat_map}
use Rattle.std.proofs.KnownBytes.{Appends-trans}
use Rattle.pcap_trace.specs.Devices.{AppendsFront}
use Rattle.pcap_trace.proofs.Sent.{AppendsFront-longer, AppendsFront-then, SentUpTo}
use Rattle.run_record.specs.Printing.{host_line}
use Rattle.run_record.specs.declared.summary.HostSummary.{HostSummary}

-- A text grew by its last part.
pub grows : {before line text : List ℕ} (more : List ℕ) → text ≡ line ++ more → line ≡ before → text ≡ before ++ more
grows {before} {line} {text} more is was = is ∙ ap (λ (bytes : List ℕ). bytes ++ more) was

-- A text was written, and then another text, of which `Sent` states how much was written.
pub sent-then : {Sent : Option (List ℕ) → Option (List ℕ) → List ℕ → Type 0}
    → ((a b c : Option (List ℕ)) (x y : List ℕ) → Appends a b x → Sent b c y → Sent a c (x ++ y)) → {a b c : Option (List ℕ)}
    {was text line rest : List ℕ} → Appends a b was → was ≡ text → line ≡ rest → Sent b c line → Sent a c (text ++ rest)
sent-then {Sent} joins {a} {b} {c} {was} {text} {line} {rest} went was_is line_is sent =
    joins a b c text rest (subst (Appends a b) was_is went) (subst (Sent b c) line_is sent)

-- No line is left to write.
pub SentUpTo-all : (a b : Option (List ℕ)) (text : List ℕ) (left : List HostSummary) → left ≡ []
    → SentUpTo a b text (flat_map host_line left) → Appends a b text
SentUpTo-all a b text left none sent = subst (Appends a b)
    (sym (sent.1 ∙ ap (λ (hosts : List HostSummary). sent.0 ++ flat_map host_line hosts) none ∙ append-nil sent.0)) sent.2

module _ (a b c : Option (List ℕ)) (text : List ℕ) (host : HostSummary) (left rest : List HostSummary) (next : left ≡ host ∷ rest)
    (sent : SentUpTo a b text (flat_map host_line left)) where
  -- the next host's line isn't written yet
  begun : text ≡ sent.0 ++ (host_line host ++ flat_map host_line rest)
  begun = sent.1 ∙ ap (λ (hosts : List HostSummary). sent.0 ++ flat_map host_line hosts) next

  pub SentUpTo-line : Appends b c (host_line host) → SentUpTo a c text (flat_map host_line rest)
  SentUpTo-line line = (
    sent.0 ++ host_line host,
    begun ∙ sym (append_assoc sent.0 (host_line host) (flat_map host_line rest)),
    Appends-trans a b c sent.0 (host_line host) sent.2 line,
  )

  pub SentUpTo-stops : AppendsFront b c (host_line host) → AppendsFront a c text
  SentUpTo-stops part = subst (AppendsFront a c) (sym begun)
      (AppendsFront-then a b c sent.0 (host_line host ++ flat_map host_line rest) sent.2
      (AppendsFront-longer b c (host_line host) (flat_map host_line rest) part))
