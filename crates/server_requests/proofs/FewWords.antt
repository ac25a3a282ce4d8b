-- The first five words of a line have the same request as all its words, because no request has more than four words.
use Rattle.std.proofs.Common.{◌≡◌, ◌∙◌, ◌<◌, ◌≤◌, ℕ, Bool, false, List, [], ◌∷◌, Option, Some, None, ap, arith, cond}
use Rattle.std.proofs.Common.{inl, inr, length, refl, sym, take, ◌⊎◌}
use Rattle.std.proofs.lemmas.Bool.Decides.{nat_tests}
use Rattle.std.proofs.lemmas.List.{length-take, take_all}
use Rattle.std.specs.Prelude.{Err}
use Rattle.server_requests.specs.Reading.{request_if, request_in, request_with}
use Rattle.server_requests.specs.Texts.{Text}
use Rattle.server_requests.specs.Verbs.{takes_words, verb_named}
use Rattle.server_requests.specs.declared.refusal.Refusal.TheVariants as refusals
use Rattle.server_requests.specs.declared.verb.Verb.{Verb}
use Rattle.server_requests.specs.declared.verb.Verb.TheVariants.{ReadNumber, WriteNumber, Read, Write, Memset, ReadPort, WritePort}
use Rattle.server_requests.specs.declared.verb.Verb.TheVariants.{Endianness, Intercept, ClockStep, ClockSet, Step, Arrive, Settle}
use Rattle.server_requests.specs.declared.verb.Verb.TheVariants.{Line, Interleave, Log, Wire, Offer, Events, Frames, Faults, Pace}
use Rattle.server_requests.specs.declared.verb.Verb.TheVariants.{Choose, Digest, Enabled, Rings, Target, Save, Restore}

too_many : (verb : Verb) (count : ℕ) → 4 < count → takes_words verb count ≡ false
too_many (ReadNumber width) count more = grind (arith, nat_tests)
too_many (WriteNumber width) count more = grind (arith, nat_tests)
too_many (Read encoding) count more = grind (arith, nat_tests)
too_many (Write encoding) count more = grind (arith, nat_tests)
too_many Memset count more = grind (arith, nat_tests)
too_many (ReadPort width) count more = grind (arith, nat_tests)
too_many (WritePort width) count more = grind (arith, nat_tests)
too_many Endianness count more = grind (arith, nat_tests)
too_many Intercept count more = grind (arith, nat_tests)
too_many ClockStep count more = grind (arith, nat_tests)
too_many ClockSet count more = grind (arith, nat_tests)
too_many Step count more = grind (arith, nat_tests)
too_many Arrive count more = grind (arith, nat_tests)
too_many Settle count more = grind (arith, nat_tests)
too_many Line count more = grind (arith, nat_tests)
too_many Digest count more = grind (arith, nat_tests)
too_many Interleave count more = grind (arith, nat_tests)
too_many Log count more = grind (arith, nat_tests)
too_many Wire count more = grind (arith, nat_tests)
too_many Offer count more = grind (arith, nat_tests)
too_many Events count more = grind (arith, nat_tests)
too_many Frames count more = grind (arith, nat_tests)
too_many Faults count more = grind (arith, nat_tests)
too_many Pace count more = grind (arith, nat_tests)
too_many Enabled count more = grind (arith, nat_tests)
too_many Choose count more = grind (arith, nat_tests)
too_many Target count more = grind (arith, nat_tests)
too_many Rings count more = grind (arith, nat_tests)
too_many Save count more = grind (arith, nat_tests)
too_many Restore count more = grind (arith, nat_tests)

either : (n most : ℕ) → (n ≤ most) ⊎ (most < n)
either n most = grind (arith, nat_tests)

refused_count : (verb : Verb) (words : List Text) → 4 < length words → request_if (Some verb) words ≡ Err refusals.Count
refused_count verb words more =
    ap (λ (takes : Bool). cond takes (request_with verb words) (Err refusals.Count)) (too_many verb (length words) more)

asked_if : (verb : Verb) (words : List Text) → (length words ≤ 5) ⊎ (5 < length words)
    → request_if (Some verb) (take 5 words) ≡ request_if (Some verb) words
asked_if verb words (inl few) = ap (λ (ws : List Text). request_if (Some verb) ws) (take_all 5 words few)
asked_if verb words (inr many) =
    refused_count verb (take 5 words) (omega (arith, length-take 5 words, many))
    ∙ sym (refused_count verb words (omega (arith, many)))

asked_any : (verb : Option Verb) (words : List Text) → request_if verb (take 5 words) ≡ request_if verb words
asked_any (Some verb) words = asked_if verb words (either (length words) 5)
asked_any None words = refl

pub asked_by_few : (words : List Text) → request_in (take 5 words) ≡ request_in words
asked_by_few [] = refl
asked_by_few (first ∷ rest) = asked_any (verb_named first) (first ∷ rest)
