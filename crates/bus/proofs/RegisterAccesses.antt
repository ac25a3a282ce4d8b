-- ICR and MPC are read over a bus.
use Rattle.std.proofs.Common.{Bool, inl, ⊎_elim, ◌≡◌, ◌<◌, ◌^◌, ◌∷◌, [], ℕ, refl, sym, ap, subst, ◌∙◌}
use Rattle.registers.specs.Bits.{HasBit}
use Rattle.adapter_model.specs.Registers.{answer_at}
use Rattle.rx_engine.specs.Pieces.{frames_of}
use Rattle.adapter_model.specs.HostFrames.{finished_pieces}
use Rattle.adapter_model.specs.Table.{register_at}
use Rattle.adapter_model.specs.World.{World, world_after_read}
use Rattle.bus.proofs.RegisterSetting.{reads_leave_frames}
use Rattle.bus.specs.Keeping.{view_of}
use Rattle.bus.specs.Law.{Acts}
use Rattle.bus.specs.Pasts.{nothing}
use Rattle.bus.specs.declared.event.Access.TheVariants.{Reads}
use Rattle.bus.proofs.DriverAccesses.{follows-acts, ran_by-acts, read-sets}
use Rattle.bus.proofs.RegisterReads.{causes_are_read, misses_are_read}
use Rattle.bus.proofs.Steps.{goes-happens}
use Rattle.bus.proofs.Intervals.{flows_join, joined-nothing, work_kept}
use Rattle.bus.specs.DriverState.{DriverState}
use Rattle.bus.specs.Calls.{FlowsTo, GoesTo, Ran, ReadsCauses, at, driver_did, driver_in, frames_ended, only, missed_added}
use Rattle.bus.specs.ReadyDrivers.{ReadyWith}
use Rattle.bus.specs.declared.bus.Bus.{Ghosts}

-- The register at the offset is read, with this value.
abbrev IsRead : (offset value : ℕ) → World → World → Type 0
IsRead offset value before after = (value ≡ answer_at offset before.adapter) × (after ≡ world_after_read offset before)

shown-causes : (world : World) → answer_at 0xC0 world.adapter ≡ world.adapter.causes.recorded
unfolding register_at
shown-causes world = refl

pub reads-causes : {up : Bool} {B : Type 0} (bus : Ghosts B) (old new : B) (d : DriverState) (value : ℕ)
    → Acts (view_of bus) old new (Reads 0xC0 value) (IsRead 0xC0 value) → ReadyWith up d (bus.world old)
    → ReadsCauses bus up value (at old d) new
reads-causes {up} bus old new d value acts ready =
    let middle = acts.middle in
    let effect = acts.effect_is in
    let first = goes-happens d (bus.world old) middle acts.past ready acts.before in
    let sets = read-sets 0xC0 value (λ before. value ≡ answer_at 0xC0 before.adapter) (bus.world new) in
    let read = causes_are_read up d middle first.flows.ready in
    let later = subst (λ (w : World). FlowsTo up (driver_in d middle) (driver_in d w) (driver_did [] []) nothing) (sym effect.1)
    read.flows in
    let leaves = reads_leave_frames d.oldest_receive d.oldest_transmit 0xC0 middle first.flows.ready.law.sound in
    let same : finished_pieces d.oldest_receive (bus.world new) ≡ finished_pieces d.oldest_receive middle =
    ap (finished_pieces d.oldest_receive) effect.1 ∙ leaves.same.pieces_same in
    record {
      past = acts.past;
      reports = acts.told;
      only = acts.only;
      flows =
          subst (FlowsTo up (driver_in d (bus.world old)) (driver_in d (bus.world new)) (driver_did [] [])) (joined-nothing acts.past)
          (flows_join d d d (bus.world old) middle (bus.world new) [] [] [] [] acts.past nothing first.flows later);
      seen = λ place bit.
          subst (λ (causes : ℕ). HasBit causes place) (sym (effect.0 ∙ shown-causes middle)) (first.causes place bit);
      cleared = ap (λ (w : World). w.adapter.causes.recorded) effect.1 ∙ read.cleared;
      work = λ unread work.
          let before = work_kept d d (bus.world old) middle [] [] acts.past first work in
          record {
            enabled = subst (λ (mask : ℕ). HasBit mask 7) (sym later.mask) before.enabled;
            asked =
                ⊎_elim
                (λ (none : frames_ended (driver_in d middle) ≡ []). inl (ap frames_of same ∙ none))
                (λ (bit : HasBit middle.adapter.causes.recorded 7).
                absurd (unread (subst (λ (causes : ℕ). HasBit causes 7) (sym (effect.0 ∙ shown-causes middle)) bit)))
                before.asked;
          };
      follows = follows-acts bus old new (Reads 0xC0 value) (IsRead 0xC0 value) acts sets;
    }

pub ran_by-misses : {up : Bool} {B : Type 0} (bus : Ghosts B) (old new : B) (d : DriverState) (value : ℕ) → d.missed < 2 ^ 64
    → Acts (view_of bus) old new (Reads 0x4010 value) (IsRead 0x4010 value) → ReadyWith up d (bus.world old)
    → Ran bus up (only (Reads 0x4010 value ∷ [])) (at old d) (at new (missed_added value d))
ran_by-misses {up} bus old new d value fits acts ready =
    ran_by-acts bus old new (Reads 0x4010 value) (IsRead 0x4010 value) d (missed_added value d) [] [] acts
    (read-sets 0x4010 value (λ before. value ≡ answer_at 0x4010 before.adapter) (bus.world new)) ready
    (λ middle set read.
    subst (λ (shown : ℕ). GoesTo up (driver_in d middle) (driver_in (missed_added shown d) (bus.world new)) (driver_did [] []) nothing)
    (sym read.0)
    (subst (λ (w : World). GoesTo up (driver_in d middle) (driver_in (missed_added (answer_at 0x4010 middle.adapter) d) w)
    (driver_did [] []) nothing) (sym read.1)
    (misses_are_read up d middle fits set)))
