-- Frames that pass, one after the other.
use Rattle.std.proofs.Common.{◌≡◌, ◌+◌, ℕ, List, [], ◌∷◌, ◌++◌, true, false, cond, length, take, Bool, Option}
use Rattle.std.proofs.Common.{refl, sym, ap, subst, ◌∙◌, append_assoc, append-nil, arith}
use Rattle.std.specs.Prelude.{◌↔◌, count_by}
use Rattle.std.specs.Io.KnownBytes.{Appends, append_known}
use Rattle.std.proofs.KnownBytes.{Appends-nil, Appends-trans}
use Rattle.std.proofs.lemmas.List.{length-append, take_at}
use Rattle.std.proofs.lemmas.List.Sums.{sum_by_push}
use Rattle.descriptors.specs.Frames.{padded, is_sendable}
use Rattle.pcap_trace.specs.Devices.{AppendsFront, Grows}
use Rattle.pcap_trace.specs.Format.{Timed, packet_of, written}
use Rattle.pcap_trace.proofs.Flushed.{flushed_front}
use Rattle.pcap_trace.specs.declared.unit.Unit.{Unit}
use Rattle.pcap_trace.proofs.Packets.{written-push}
use Rattle.pcap_bench.specs.Passing.{Filter, Fate, illegal, filtered, kept, IsFateBy}
use Rattle.pcap_bench.specs.Passing.{HaveFates, is_illegal_fate, is_filtered, is_kept, kept_from}
use Rattle.pcap_bench.specs.Passing.{StopsAmong, WritesKept}
use Rattle.pcap_bench.specs.declared.counts.PassCounts.{PassCounts}

-- ---- one more frame

HaveFates-push : (keeps : Filter) (fs : List (List ℕ)) (ts : List Fate) (f : List ℕ) (t : Fate) → HaveFates keeps fs ts → IsFateBy keeps f t
    → HaveFates keeps (fs ++ f ∷ []) (ts ++ t ∷ [])
HaveFates-push keeps [] [] f t right is = (is, tt)
HaveFates-push keeps [] (u ∷ us) f t right is = absurd right
HaveFates-push keeps (g ∷ gs) [] f t right is = absurd right
HaveFates-push keeps (g ∷ gs) (u ∷ us) f t right is = (right.0, HaveFates-push keeps gs us f t right.1 is)

-- the frame if it is kept, or no frame
abbrev kept_of : ℕ → List ℕ → Fate → List Timed
kept_of n f t = kept_from n (f ∷ []) (t ∷ [])

kept_from-push : (keeps : Filter) (n : ℕ) (fs : List (List ℕ)) (ts : List Fate) (f : List ℕ) (t : Fate) → HaveFates keeps fs ts
    → kept_from n (fs ++ f ∷ []) (ts ++ t ∷ []) ≡ kept_from n fs ts ++ kept_of (n + length fs) f t
kept_from-push keeps n [] [] f t right = ap (λ (k : ℕ). kept_of k f t) (omega arith)
kept_from-push keeps n [] (u ∷ us) f t right = absurd right
kept_from-push keeps n (g ∷ gs) [] f t right = absurd right
kept_from-push keeps n (g ∷ gs) (illegal ∷ us) f t right =
    kept_from-push keeps (n + 1) gs us f t right.1 ∙ ap (λ (k : ℕ). kept_from (n + 1) gs us ++ kept_of k f t) (omega arith)
kept_from-push keeps n (g ∷ gs) (filtered ∷ us) f t right =
    kept_from-push keeps (n + 1) gs us f t right.1 ∙ ap (λ (k : ℕ). kept_from (n + 1) gs us ++ kept_of k f t) (omega arith)
kept_from-push keeps n (g ∷ gs) (kept ∷ us) f t right =
    ap (λ (x : List Timed). record { time = n; frame = padded g } ∷ x) (kept_from-push keeps (n + 1) gs us f t right.1
    ∙ ap (λ (k : ℕ). kept_from (n + 1) gs us ++ kept_of k f t) (omega arith))

count_by-push : (p : Fate → Bool) (ts : List Fate) (t : Fate) → count_by p (ts ++ t ∷ []) ≡ count_by p ts + cond (p t) 1 0
count_by-push p ts t = sum_by_push (λ x. cond (p x) 1 0) ts t

-- ---- two filters that keep the same frames

IsFate-same : (keeps others : Filter) (f : List ℕ) (t : Fate) → ((g : List ℕ) → keeps g ↔ others g) → IsFateBy keeps f t
    → IsFateBy others f t
IsFate-same keeps others f illegal both is = is
IsFate-same keeps others f filtered both is = (is.0, λ kept. is.1 ((both (padded f)).1 kept))
IsFate-same keeps others f kept both is = (is.0, (both (padded f)).0 is.1)

HaveFates-same : (keeps others : Filter) (fs : List (List ℕ)) (ts : List Fate) → ((g : List ℕ) → keeps g ↔ others g)
    → HaveFates keeps fs ts → HaveFates others fs ts
HaveFates-same keeps others [] [] both right = right
HaveFates-same keeps others [] (t ∷ ts) both right = right
HaveFates-same keeps others (f ∷ fs) [] both right = right
HaveFates-same keeps others (f ∷ fs) (t ∷ ts) both right =
    (IsFate-same keeps others f t both right.0, HaveFates-same keeps others fs ts both right.1)

pub WritesKept-same : (unit : Unit) (keeps others : Filter) (frames : List (List ℕ)) (counts : PassCounts) (before after : Option (List ℕ))
    → ((g : List ℕ) → keeps g ↔ others g) → WritesKept unit keeps frames counts before after
    → WritesKept unit others frames counts before after
WritesKept-same unit keeps others frames counts before after both all = record {
  fates = all.fates;
  right = HaveFates-same keeps others frames all.fates both all.right;
  went = all.went;
  read_is = all.read_is;
  illegal_is = all.illegal_is;
  filtered_is = all.filtered_is;
  written_is = all.written_is;
}

pub StopsAmong-same : (unit : Unit) (keeps others : Filter) (frames : List (List ℕ)) (before after : Option (List ℕ))
    → ((g : List ℕ) → keeps g ↔ others g) → StopsAmong unit keeps frames before after → StopsAmong unit others frames before after
StopsAmong-same unit keeps others frames before after both stops = record {
  count = stops.count;
  fates = stops.fates;
  right = HaveFates-same keeps others (take stops.count frames) stops.fates both stops.right;
  went = stops.went;
}

-- ---- the loop of a call

-- The fates of the frames `done` were decided, and the frames `rest` are left. The bytes written, with those that wait, are the written
-- form of the kept frames of `done`.
pub record SoFar (unit : Unit) (keeps : Filter) (frames rest : List (List ℕ)) (next dropped turned_away out : ℕ)
    (before after : Option (List ℕ)) : Type 0 where
  pub done : List (List ℕ)
  pub parts : frames ≡ done ++ rest
  pub fates : List Fate
  pub right : HaveFates keeps done fates
  pub went : Appends before after (written unit (kept_from 0 done fates))
  pub next_is : next ≡ length done
  pub illegal_is : dropped ≡ count_by is_illegal_fate fates
  pub filtered_is : turned_away ≡ count_by is_filtered fates
  pub written_is : out ≡ count_by is_kept fates
  pub sum : dropped + turned_away + out ≡ next

pub SoFar-start : (unit : Unit) (keeps : Filter) (frames rest : List (List ℕ)) (dropped turned_away out : ℕ)
    (before after : Option (List ℕ))
    → rest ≡ frames → dropped ≡ 0 → turned_away ≡ 0 → out ≡ 0 → Appends before after (written unit [])
    → SoFar unit keeps frames rest 0 dropped turned_away out before after
SoFar-start unit keeps frames rest dropped turned_away out before after all d t o went = record {
  done = [];
  parts = sym all;
  fates = [];
  right = tt;
  went = went;
  next_is = refl;
  illegal_is = d;
  filtered_is = t;
  written_is = o;
  sum = omega arith;
}

more_parts : (frames done left rest : List (List ℕ)) (f : List ℕ) → left ≡ f ∷ rest → frames ≡ done ++ left
    → frames ≡ (done ++ f ∷ []) ++ rest
more_parts frames done left rest f first parts =
    parts ∙ ap (λ (x : List (List ℕ)). done ++ x) first ∙ sym (append_assoc done (f ∷ []) rest)

-- One more frame has this fate. Its count grows by one, and the frame was written if it is kept.
SoFar-next : (unit : Unit) (keeps : Filter) (frames left rest : List (List ℕ)) (f : List ℕ) (fate : Fate)
    (next dropped turned_away out d t o : ℕ) (before mid after : Option (List ℕ)) → left ≡ f ∷ rest → IsFateBy keeps f fate
    → d ≡ dropped + cond (is_illegal_fate fate) 1 0 → t ≡ turned_away + cond (is_filtered fate) 1 0 → o ≡ out + cond (is_kept fate) 1 0
    → d + t + o ≡ next + 1
    → (s : SoFar unit keeps frames left next dropped turned_away out before mid)
    → Appends before after (written unit (kept_from 0 s.done s.fates ++ kept_of next f fate))
    → SoFar unit keeps frames rest (next + 1) d t o before after
SoFar-next unit keeps frames left rest f fate next dropped turned_away out d t o before mid after first is d_is t_is o_is sum s went =
    let all : kept_from 0 (s.done ++ f ∷ []) (s.fates ++ fate ∷ []) ≡ kept_from 0 s.done s.fates ++ kept_of next f fate =
    kept_from-push keeps 0 s.done s.fates f fate s.right
    ∙ ap (λ (k : ℕ). kept_from 0 s.done s.fates ++ kept_of k f fate) (omega (arith, s.next_is)) in
    record {
      done = s.done ++ f ∷ [];
      parts = more_parts frames s.done left rest f first s.parts;
      fates = s.fates ++ fate ∷ [];
      right = HaveFates-push keeps s.done s.fates f fate s.right is;
      went = subst (λ (x : List Timed). Appends before after (written unit x)) (sym all) went;
      next_is = omega (arith, s.next_is, length-append s.done (f ∷ []));
      illegal_is = omega (arith, s.illegal_is, count_by-push is_illegal_fate s.fates fate);
      filtered_is = omega (arith, s.filtered_is, count_by-push is_filtered s.fates fate);
      written_is = omega (arith, s.written_is, count_by-push is_kept s.fates fate);
      sum = sum;
    }

pub SoFar-illegal : (unit : Unit) (keeps : Filter) (frames left rest : List (List ℕ)) (f : List ℕ) (next dropped turned_away out : ℕ)
    (before after : Option (List ℕ)) → left ≡ f ∷ rest → is_sendable f ≡ false
    → SoFar unit keeps frames left next dropped turned_away out before after
    → SoFar unit keeps frames rest (next + 1) (dropped + 1) turned_away out before after
SoFar-illegal unit keeps frames left rest f next dropped turned_away out before after first bad s =
    SoFar-next unit keeps frames left rest f illegal next dropped turned_away out (dropped + 1) turned_away out before after after first bad
    (omega arith) (omega arith) (omega arith) (omega (arith, s.sum)) s (rw append-nil s.went)

pub SoFar-filtered : (unit : Unit) (keeps : Filter) (frames left rest : List (List ℕ)) (f : List ℕ) (next dropped turned_away out : ℕ)
    (before after : Option (List ℕ)) → left ≡ f ∷ rest → is_sendable f ≡ true → (keeps (padded f) → ⊥)
    → SoFar unit keeps frames left next dropped turned_away out before after
    → SoFar unit keeps frames rest (next + 1) dropped (turned_away + 1) out before after
SoFar-filtered unit keeps frames left rest f next dropped turned_away out before after first good away s =
    SoFar-next unit keeps frames left rest f filtered next dropped turned_away out dropped (turned_away + 1) out before after after first
    (good, away) (omega arith) (omega arith) (omega arith) (omega (arith, s.sum)) s (rw append-nil s.went)

pub SoFar-kept : (unit : Unit) (keeps : Filter) (frames left rest : List (List ℕ)) (f : List ℕ) (next dropped turned_away out : ℕ)
    (before mid after : Option (List ℕ)) → left ≡ f ∷ rest → is_sendable f ≡ true → keeps (padded f)
    → SoFar unit keeps frames left next dropped turned_away out before mid
    → Appends mid after (packet_of unit (record { time = next; frame = padded f }))
    → SoFar unit keeps frames rest (next + 1) dropped turned_away (out + 1) before after
SoFar-kept unit keeps frames left rest f next dropped turned_away out before mid after first good keep s went =
    let ts = kept_from 0 s.done s.fates in
    let t : Timed = record { time = next; frame = padded f } in
    SoFar-next unit keeps frames left rest f kept next dropped turned_away out dropped turned_away (out + 1) before mid after first
    (good, keep) (omega arith) (omega arith) (omega arith) (omega (arith, s.sum)) s
    (subst (Appends before after) (sym (written-push unit ts t))
    (Appends-trans before mid after (written unit ts) (packet_of unit t) s.went went))

-- ---- the end

pub SoFar-stops : (unit : Unit) (keeps : Filter) (frames rest : List (List ℕ)) (next dropped turned_away out : ℕ)
    (before mid after : Option (List ℕ)) (waiting : List ℕ)
    → Grows before mid → SoFar unit keeps frames rest next dropped turned_away out before (append_known mid waiting)
    → AppendsFront mid after waiting → StopsAmong unit keeps frames before after
SoFar-stops unit keeps frames rest next dropped turned_away out before mid after waiting grown s went =
    let first : take (length s.done) frames ≡ s.done = ap (take (length s.done)) s.parts ∙ take_at s.done rest (length s.done) refl in
    record {
      count = length s.done;
      fates = s.fates;
      right = subst (λ (x : List (List ℕ)). HaveFates keeps x s.fates) (sym first) s.right;
      went = subst (λ (x : List (List ℕ)). AppendsFront before after (written unit (kept_from 0 x s.fates))) (sym first)
          (flushed_front before mid after waiting (written unit (kept_from 0 s.done s.fates)) grown s.went went);
    }

pub StopsAmong-start : (unit : Unit) (keeps : Filter) (frames : List (List ℕ)) (before : Option (List ℕ))
    → StopsAmong unit keeps frames before before
StopsAmong-start unit keeps frames before = record { count = 0; fates = []; right = tt; went = (0, Appends-nil before) }
