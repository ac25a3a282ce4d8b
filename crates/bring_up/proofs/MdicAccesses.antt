-- Calls that write only MDIC, with the least number of their accesses.
use Rattle.std.proofs.Common.{◌≡◌, ◌≤◌, ◌+◌, ◌∷◌, [], ℕ, List, length, refl, sym, ap, subst, ◌∙◌, arith, length-append}
use Rattle.std.specs.List.{All}
use Rattle.std.proofs.lemmas.List.Elements.{All-cons}
use Rattle.adapter.specs.Registers.{after_write}
use Rattle.adapter.specs.State.{AdapterState}
use Rattle.adapter.specs.Table.{register_at}
use Rattle.adapter.specs.World.{World, world_after_read, world_after_write}
use Rattle.adapter.specs.Keeping.{view_of}
use Rattle.adapter.specs.Law.{Acts}
use Rattle.adapter.specs.Pasts.{nothing}
use Rattle.adapter.specs.bus_types.bus.Bus.{Ghosts}
use Rattle.adapter.specs.bus_types.event.Access.{Access}
use Rattle.adapter.specs.bus_types.event.Access.TheVariants.{Reads, Writes}
use Rattle.adapter.specs.AdaptersAtRest.{IsAtRest, IsElsewhere}
use Rattle.adapter.specs.Settings.{Write, settings_of, writes_in}
use Rattle.adapter.proofs.Lists.{all-none}
use Rattle.adapter.proofs.AdaptersAtRest.{accesses_keep_rest, happenings_keep_rest}
use Rattle.adapter.proofs.Settings.{happenings_leave_settings, reads-leave}
use Rattle.bring_up.specs.SettingSteps.{WritesOneRegister}
use Rattle.bring_up.proofs.Steps.{IntervalsJoin, asks-join, asks-nothing}

pub record AsksTimes {B : Type 0} (bus : Ghosts B) (old new : B) (offset times : ℕ) : Type 0 where
  pub asks : WritesOneRegister bus offset old new
  pub often : times ≤ length asks.past.accesses

pub asks-fewer : {B : Type 0} (bus : Ghosts B) (old new : B) (offset many few : ℕ)
    → few ≤ many → AsksTimes bus old new offset many → AsksTimes bus old new offset few
asks-fewer bus old new offset many few fewer times = record { asks = times.asks; often = let often = times.often in omega arith }

-- If an access writes no register except this one, and changes no setting, `AsksTimes` holds with one access.
abbrev asks-access : {B : Type 0} (bus : Ghosts B) (old new : B) (access : Access) (effect : World → World → Type 0) (offset : ℕ)
    → (acts : Acts (view_of bus) old new access effect) → All (λ write. write.offset ≡ offset) (writes_in (access ∷ []))
    → settings_of (bus.world new).adapter ≡ settings_of acts.middle.adapter → (IsAtRest acts.middle → IsAtRest (bus.world new))
    → AsksTimes bus old new offset 1
asks-access bus old new access effect offset acts only left rests = record {
  asks = record {
    past = acts.past;
    reports = acts.told;
    only = subst (λ (accesses : List Access). All (λ write. write.offset ≡ offset) (writes_in accesses)) (sym acts.only) only;
    settings = left ∙ happenings_leave_settings (bus.world old) acts.middle acts.past acts.before;
    rests = λ rest.
        let waits = happenings_keep_rest (bus.world old) acts.middle acts.past acts.before acts.adapter rest in
        (rests waits.0, waits.1);
  };
  often = let one : length acts.past.accesses ≡ 1 = ap length acts.only in omega arith;
}

abbrev pub asks-read : {B : Type 0} (bus : Ghosts B) (old new : B) (offset value : ℕ) (answer : World → Type 0)
    → Acts (view_of bus) old new (Reads offset value)
    (λ before after. answer before × (after ≡ world_after_read offset before))
    → AsksTimes bus old new offset 1
asks-read bus old new offset value answer acts =
    asks-access bus old new (Reads offset value) _ offset acts (all-none (λ write. write.offset ≡ offset))
    (ap (λ (w : World). settings_of w.adapter) acts.effect_is.1 ∙ reads-leave offset acts.middle.adapter)
    (λ rest. subst IsAtRest (sym acts.effect_is.1) (accesses_keep_rest (Reads offset value) acts.middle tt refl rest))

abbrev pub asks-write : {B : Type 0} (bus : Ghosts B) (old new : B) (offset value : ℕ)
    → IsElsewhere (register_at offset) → ((adapter : AdapterState) → settings_of (after_write offset value adapter) ≡ settings_of adapter)
    → Acts (view_of bus) old new (Writes offset value) (λ before after. after ≡ world_after_write offset value before)
    → AsksTimes bus old new offset 1
asks-write bus old new offset value elsewhere leaves acts =
    let write : Write = record { offset = offset; value = value } in
    asks-access bus old new (Writes offset value) _ offset acts
    (All-cons (λ write. write.offset ≡ offset) write [] refl (all-none (λ write. write.offset ≡ offset)))
    (ap (λ (w : World). settings_of w.adapter) acts.effect_is ∙ leaves acts.middle.adapter)
    (λ rest. subst IsAtRest (sym acts.effect_is) (accesses_keep_rest (Writes offset value) acts.middle elsewhere refl rest))

abbrev pub asks-both : {B : Type 0} (bus : Ghosts B) → IntervalsJoin bus
    → (a b c : B) (offset m n : ℕ) → AsksTimes bus a b offset m → AsksTimes bus b c offset n
    → AsksTimes bus a c offset (m + n)
asks-both bus joins a b c offset m n first later = record {
  asks = asks-join bus joins a b c offset first.asks later.asks;
  often =
      let m_often = first.often in
      let n_often = later.often in
      omega (arith, length-append first.asks.past.accesses later.asks.past.accesses);
}

pub asks-none : {B : Type 0} (bus : Ghosts B) → ((b : B) → bus.happened b b nothing)
    → (b : B) (offset : ℕ) → AsksTimes bus b b offset 0
asks-none bus stays b offset = record { asks = asks-nothing bus stays b offset; often = omega arith }
