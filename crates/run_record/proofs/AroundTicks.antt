-- The happenings of a join or a leave, between those of its ticks.
use Rattle.std.proofs.Common.{◌≡◌, ◌∙◌, ◌++◌, [], ℕ, List, Ok, Err, Option, Some, None, option_map, slice_get, refl, sym, ap}
use Rattle.std.specs.List.{flat_map, fold}
use Rattle.std.proofs.lemmas.Grind.{flat_map-append}
use Rattle.std.proofs.lemmas.List.Sums.{fold-append}
use Rattle.host_calls.specs.DeliveryLaws.{IsBetween}
use Rattle.host_calls.specs.Happenings.{Happening}
use Rattle.network_plan.specs.Answers.{FrameAnswer}
use Rattle.network_plan.specs.declared.reply.Answer.TheVariants as answer
use Rattle.wire.specs.Runs.{joined_of, left_by_answer}
use Rattle.run_record.specs.Kept.{put_frame_in, returned_frame_in}
use Rattle.run_record.specs.Tallies.{TalliesGrow, tallied_by, tally_behind}
use Rattle.run_record.specs.declared.tally.Tally.{Tally}

-- These happenings change no count, and have no frame that a socket returns or that is put.
pub record AreQuiet (middle : List Happening) : Type 0 where
  pub counts : (k : ℕ) (tally : Tally) → fold (tallied_by k) tally middle ≡ tally
  pub gives : (number : ℕ) → flat_map (returned_frame_in number) middle ≡ []
  pub puts : (number : ℕ) → flat_map (put_frame_in number) middle ≡ []

none-quiet : AreQuiet []
none-quiet = record { counts = λ k tally. refl; gives = λ number. refl; puts = λ number. refl }

pub joins_quiet : (host : ℕ) (group : List ℕ) (one : FrameAnswer) → AreQuiet (joined_of host group one)
joins_quiet host group (answer.Joined (Ok u)) = record { counts = λ k tally. refl; gives = λ number. refl; puts = λ number. refl }
joins_quiet host group (answer.Joined (Err error)) = none-quiet
joins_quiet host group _ = none-quiet

pub leaves_quiet : (host : ℕ) (group : List ℕ) (one : FrameAnswer) → AreQuiet (left_by_answer host group one)
leaves_quiet host group (answer.Left (Ok u)) = record { counts = λ k tally. refl; gives = λ number. refl; puts = λ number. refl }
leaves_quiet host group (answer.Left (Err error)) = none-quiet
leaves_quiet host group _ = none-quiet

module _ (middle ticked said : List Happening) (between : IsBetween middle ticked said) (quiet : AreQuiet middle) where
  list-around : {T : Type 0} (of : Happening → List T) → flat_map of middle ≡ [] → flat_map of said ≡ flat_map of ticked
  list-around {T} of none =
      ap (flat_map of) between.all ∙ flat_map-append of between.before (middle ++ between.behind)
      ∙ ap (λ (list : List T). flat_map of between.before ++ list)
      (flat_map-append of middle between.behind ∙ ap (λ (list : List T). list ++ flat_map of between.behind) none)
      ∙ sym (flat_map-append of between.before between.behind) ∙ sym (ap (flat_map of) between.ticks)

  pub gives_around : (number : ℕ) → flat_map (returned_frame_in number) said ≡ flat_map (returned_frame_in number) ticked
  gives_around number = list-around (returned_frame_in number) (quiet.gives number)

  pub puts_around : (number : ℕ) → flat_map (put_frame_in number) said ≡ flat_map (put_frame_in number) ticked
  puts_around number = list-around (put_frame_in number) (quiet.puts number)

  counts-around : (k : ℕ) (tally : Tally) → tally_behind said k tally ≡ tally_behind ticked k tally
  counts-around k tally =
      let count = λ (t : Tally) (list : List Happening). fold (tallied_by k) t list in
      let first = count tally between.before in
      ap (count tally) between.all ∙ fold-append (tallied_by k) tally between.before (middle ++ between.behind)
      ∙ fold-append (tallied_by k) first middle between.behind ∙ ap (λ (t : Tally). count t between.behind) (quiet.counts k first)
      ∙ sym (fold-append (tallied_by k) tally between.before between.behind) ∙ sym (ap (count tally) between.ticks)

  grown-around : (k : ℕ) (found : Option Tally) → option_map (tally_behind ticked k) found ≡ option_map (tally_behind said k) found
  grown-around k None = refl
  grown-around k (Some tally) = ap (λ (t : Tally). Some t) (sym (counts-around k tally))

  pub grows_around : (old new : List Tally) → TalliesGrow ticked old new → TalliesGrow said old new
  grows_around old new grows k = grows k ∙ grown-around k (slice_get old k)
