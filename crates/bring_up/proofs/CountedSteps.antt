-- Calls that write only one register, with the least number of their accesses.
use Rattle.std.proofs.Common.{◌≡◌, ◌+◌, ◌≤◌, ◌∷◌, [], ℕ, List, length, length-append, refl, sym, ap, subst, ◌∙◌, arith}
use Rattle.std.specs.List.{All}
use Rattle.std.proofs.lemmas.List.Elements.{All-append, All-cons}
use Rattle.adapter.specs.Registers.{after_write}
use Rattle.adapter.specs.State.{AdapterState}
use Rattle.adapter.specs.World.{World, world_after_read, world_after_write}
use Rattle.adapter.specs.Keeping.{view_of}
use Rattle.adapter.specs.Law.{Acts}
use Rattle.adapter.specs.Pasts.{joined}
use Rattle.adapter.specs.bus_types.bus.Bus.{Ghosts}
use Rattle.adapter.specs.bus_types.event.Access.{Access}
use Rattle.adapter.specs.bus_types.event.Access.TheVariants.{Reads, Writes}
use Rattle.adapter.specs.AdaptersAtRest.{IsAtRest}
use Rattle.adapter.specs.Settings.{Settings, Write, settings_of, writes_in}
use Rattle.adapter.proofs.Lists.{all-none}
use Rattle.adapter.proofs.AdaptersAtRest.{accesses_keep_rest, happenings_keep_rest}
use Rattle.adapter.proofs.Settings.{happenings_leave_settings, reads-leave, writes-append}
use Rattle.bring_up.specs.SettingSteps.{WritesOneRegister, IsAside}
use Rattle.bring_up.proofs.Steps.{IntervalsJoin}

-- the write is a write of this register
abbrev pub IsOf : ℕ → Write → Type 0
IsOf offset write = write.offset ≡ offset

module _ {B : Type 0} (bus : Ghosts B) where
  -- A call writes only this register, in at least this number of accesses.
  pub record AsksAtLeast (old new : B) (offset count : ℕ) : Type 0 where
    pub asks : WritesOneRegister bus offset old new
    pub count_is : count ≤ length asks.past.accesses

  pub asks-image : (old new : B) (offset : ℕ) → WritesOneRegister bus offset old new
      → (bus.world new).adapter.image ≡ (bus.world old).adapter.image
  asks-image old new offset asks = ap (λ (settings : Settings). settings.image) asks.settings

  pub asks-more : IntervalsJoin bus → (a b c : B) (offset first later : ℕ) → AsksAtLeast a b offset first
      → AsksAtLeast b c offset later → AsksAtLeast a c offset (first + later)
  asks-more joins a b c offset first later one two =
      let before : List Access = one.asks.past.accesses in
      let behind : List Access = two.asks.past.accesses in
      record {
        asks = record {
          past = joined one.asks.past two.asks.past;
          reports = joins a b c one.asks.past two.asks.past one.asks.reports two.asks.reports;
          only =
              subst (All (IsOf offset)) (sym (writes-append before behind))
              (All-append (IsOf offset) (writes_in before) (writes_in behind) one.asks.only two.asks.only);
          settings = two.asks.settings ∙ one.asks.settings;
          rests = λ rest.
              let middle = one.asks.rests rest in
              let end = two.asks.rests middle.0 in (
                end.0,
                record {
                  none_put = rw (middle.1.none_put, end.1.none_put) refl;
                  none_stored = rw (middle.1.none_stored, end.1.none_stored) refl;
                  none_missed = rw (middle.1.none_missed, end.1.none_missed) refl;
                },
              );
        };
        count_is = omega (arith, length-append before behind, one.count_is, two.count_is);
      }

  -- If an access writes no register except this one, and changes no setting, `AsksAtLeast` holds with one access.
  asks-access : (old new : B) (access : Access) (effect : World → World → Type 0) (offset : ℕ)
      → (acts : Acts (view_of bus) old new access effect) → All (IsOf offset) (writes_in (access ∷ []))
      → settings_of (bus.world new).adapter ≡ settings_of acts.middle.adapter → (IsAtRest acts.middle → IsAtRest (bus.world new))
      → AsksAtLeast old new offset 1
  asks-access old new access effect offset acts only same rests = record {
    asks = record {
      past = acts.past;
      reports = acts.told;
      only = subst (λ (accesses : List Access). All (IsOf offset) (writes_in accesses)) (sym acts.only) only;
      settings = same ∙ happenings_leave_settings (bus.world old) acts.middle acts.past acts.before;
      rests = λ rest.
          let waits = happenings_keep_rest (bus.world old) acts.middle acts.past acts.before acts.adapter rest in
          (rests waits.0, waits.1);
    };
    count_is = omega (arith, ap (length {A = Access}) acts.only);
  }

  -- A read of any register writes no register, and changes no setting.
  pub asks-read : (old new : B) (asked offset value : ℕ) (answer : World → Type 0)
      → Acts (view_of bus) old new (Reads offset value)
      (λ before after. answer before × (after ≡ world_after_read offset before))
      → AsksAtLeast old new asked 1
  asks-read old new asked offset value answer acts =
      asks-access old new (Reads offset value) _ asked acts
      (all-none (IsOf asked))
      (ap (λ (w : World). settings_of w.adapter) acts.effect_is.1 ∙ reads-leave offset acts.middle.adapter)
      (λ rest. subst IsAtRest (sym acts.effect_is.1) (accesses_keep_rest (Reads offset value) acts.middle tt refl rest))

  -- A write of a register that isn't part of the settings writes only this register, and changes no setting.
  pub asks-write : (old new : B) (offset value : ℕ) → IsAside (record { offset = offset; value = value })
      → ((adapter : AdapterState) → settings_of (after_write offset value adapter) ≡ settings_of adapter)
      → Acts (view_of bus) old new (Writes offset value) (λ before after. after ≡ world_after_write offset value before)
      → AsksAtLeast old new offset 1
  asks-write old new offset value aside same acts =
      let write : Write = record { offset = offset; value = value } in
      asks-access old new (Writes offset value) _ offset acts
      (All-cons (IsOf offset) write [] refl (all-none (IsOf offset)))
      (ap (λ (w : World). settings_of w.adapter) acts.effect_is ∙ same acts.middle.adapter)
      (λ rest. subst IsAtRest (sym acts.effect_is) (accesses_keep_rest (Writes offset value) acts.middle aside refl rest))
