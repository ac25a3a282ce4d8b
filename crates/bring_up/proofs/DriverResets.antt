-- A driver disables the receiver and resets its adapter, access by access.
use Rattle.std.proofs.Common.{◌≡◌, ◌≤◌, ◌++◌, ◌∷◌, [], ℕ, Bool, List, length, refl, sym, ap, subst, ◌∙◌}
use Rattle.std.specs.List.{All}
use Rattle.std.proofs.lemmas.List.Elements.{All-cons}
use Rattle.registers.specs.Laws.{HasBit-zero}
use Rattle.dma_memory.specs.Layout.{size_of}
use Rattle.dma_memory.specs.Owners.{HaveSameNumbers}
use Rattle.adapter.specs.TableLaws.{register_at-there}
use Rattle.adapter.specs.World.{World, world_after_read, world_after_write}
use Rattle.adapter.specs.model_types.register.Register.TheVariants.{Ctrl, Imc, Rctl}
use Rattle.adapter.specs.Keeping.{view_of}
use Rattle.adapter.specs.Law.{Acts}
use Rattle.adapter.specs.Link.{HasLink, IsNotOfPhy, LeavesPhy}
use Rattle.adapter.specs.Pasts.{nothing}
use Rattle.adapter.specs.Settings.{Write}
use Rattle.adapter.specs.bus_types.bus.Bus.{Ghosts}
use Rattle.adapter.specs.bus_types.event.Access.TheVariants.{Reads, Writes}
use Rattle.adapter.proofs.Links.{happenings_keep_link}
use Rattle.adapter.proofs.Lists.{all-none}
use Rattle.adapter.specs.Calls.{GoesTo, driver_did, driver_in}
use Rattle.adapter.specs.DriverState.{DriverState}
use Rattle.adapter.specs.ReadyDrivers.{ReadyWith, Stands}
use Rattle.adapter.specs.Resets.{RestsWith, reset_driver, reset_world}
use Rattle.adapter.proofs.DriverAccesses.{ran_by-acts, read-sets, write-sets}
use Rattle.adapter.proofs.Resets.{receiver_is_disabled, reset_forgets_slots}
use Rattle.adapter.proofs.Steps.{goes-happens}
use Rattle.bring_up.specs.DriverSteps.{LeavesDriver, ResetsDriver}
use Rattle.bring_up.specs.RingRegisters.{disable_writes}
use Rattle.bring_up.specs.SettingSteps.{IsAside, Sets}
use Rattle.bring_up.specs.WrittenRegisters.{write_at}
use Rattle.bring_up.specs.SettingSteps.{WriteActs}
use Rattle.bring_up.proofs.DriverAccesses.{accessed-by, accessed-join}
use Rattle.bring_up.proofs.Steps.{IntervalsJoin, no-frames, register-written, sets-access, sets-read, sets-write}
use Rattle.bring_up.proofs.WritesAtRest.{mask-aside, reset-written}

-- The receiver is disabled: RCTL is written with 0

pub disables : {B : Type 0} (bus : Ghosts B) (up : Bool) (old new : B) (d : DriverState) → WriteActs bus old new 0x0100 0
    → ReadyWith up d (bus.world old) → LeavesDriver bus disable_writes up d old new
disables bus up old new d acts ready =
    ran_by-acts bus old new (Writes 0x0100 0) _ d d [] [] acts (write-sets 0x0100 0 (bus.world new)) ready
    (λ middle there written.
    subst (λ (w : World). GoesTo up (driver_in d middle) (driver_in d w) (driver_did [] []) nothing)
    (sym (written ∙ register-written Rctl tt 0 middle))
    (receiver_is_disabled up d 0 middle there (HasBit-zero 1) (HasBit-zero 25)))

pub disabled-off : {B : Type 0} (bus : Ghosts B) (old new : B) → WriteActs bus old new 0x0100 0
    → (bus.world new).adapter.filter.rctl ≡ 0
disabled-off bus old new acts = ap (λ (w : World). w.adapter.filter.rctl) (acts.effect_is ∙ register-written Rctl tt 0 acts.middle)

-- The link remains up

pub link_control-keeps : (before after : World) → after ≡ world_after_write 0x0000 0x60 before → HasLink before → HasLink after
link_control-keeps before after written link =
    subst HasLink (sym (written ∙ register-written Ctrl tt 0x60 before)) (record { up = link.up; no_command = link.no_command })

mask-leaves_phy : All LeavesPhy (write_at 0x00D8 0xFFFFFFFF ∷ [])
mask-leaves_phy =
    All-cons LeavesPhy (write_at 0x00D8 0xFFFFFFFF) [] (subst IsNotOfPhy (sym (register_at-there Imc tt)) tt) (all-none LeavesPhy)

-- The reset

pub rests-sets : {B : Type 0} (bus : Ghosts B) (old new : B) (writes : List Write) (d : DriverState) → Sets bus writes old new
    → All IsAside writes → RestsWith d (bus.world old) → RestsWith d (bus.world new)
rests-sets bus old new writes d sets aside rests =
    let memory = sets.memory aside rests.rest in
    record {
      rest = (sets.rests aside rests.rest).0;
      lies = subst (λ (bytes : List ℕ). size_of d.layout ≤ length bytes) (sym memory) rests.lies;
      one_owner = rests.one_owner;
      stand = subst (λ (bytes : List ℕ). All (Stands d.layout bytes) d.handed_out) (sym memory) rests.stand;
    }

pub resets : {B : Type 0} (bus : Ghosts B) → IntervalsJoin bus → (up : Bool) (b0 b1 b2 b3 : B) (value causes : ℕ) (answer : World → Type 0)
    (d : DriverState) (pool : List ℕ) → value ≡ 0x04000000 → WriteActs bus b0 b1 0x0000 value → WriteActs bus b1 b2 0x00D8 0xFFFFFFFF
    → Acts (view_of bus) b2 b3 (Reads 0x00C0 causes) (λ before after. answer before × (after ≡ world_after_read 0x00C0 before))
    → ReadyWith up d (bus.world b0) → HaveSameNumbers (d.pool ++ (d.buffers ++ d.staged)) pool → ResetsDriver bus up pool d b0 b3
unfolding accessed-by accessed-join sets-access sets-read sets-write
resets bus joins up b0 b1 b2 b3 value causes answer d pool is written masks reads ready free =
    let acts = subst (WriteActs bus b0 b1 0x0000) is written in
    let last = acts.middle in
    let again = reset_driver pool d in
    let goes = goes-happens d (bus.world b0) last acts.past ready acts.before in
    let is_reset : bus.world b1 ≡ reset_world last = acts.effect_is ∙ reset-written last in
    let rests1 : RestsWith again (bus.world b1) =
    subst (RestsWith again) (sym is_reset) (reset_forgets_slots up d pool last goes.flows.ready free) in
    let masked = sets-write bus b1 b2 0x00D8 0xFFFFFFFF masks in
    let rests2 = rests-sets bus b1 b2 (write_at 0x00D8 0xFFFFFFFF ∷ []) again masked mask-aside rests1 in
    let read = sets-read bus b2 b3 0x00C0 causes answer reads in
    record {
      middle = b1;
      first = accessed-by bus b0 b1 (Writes 0x0000 0x04000000) _ acts (write-sets 0x0000 0x04000000 (bus.world b1));
      causes = causes;
      later = accessed-join bus joins b1 b2 b3 (Writes 0x00D8 0xFFFFFFFF ∷ []) (Reads 0x00C0 causes ∷ [])
          (accessed-by bus b1 b2 (Writes 0x00D8 0xFFFFFFFF) _ masks (write-sets 0x00D8 0xFFFFFFFF (bus.world b2)))
          (accessed-by bus b2 b3 (Reads 0x00C0 causes) _ reads (read-sets 0x00C0 causes answer (bus.world b3)));
      last = last;
      goes = goes;
      is_reset = is_reset;
      no_frame = no-frames masks.past reads.past (masked.rests mask-aside rests1.rest).1 (read.rests (all-none IsAside) rests2.rest).1;
      rests = rests-sets bus b2 b3 [] again read (all-none IsAside) rests2;
      link = λ up_before.
          let there = happenings_keep_link (bus.world b0) last acts.past acts.before up_before in
          let reset : HasLink (bus.world b1) = subst HasLink (sym is_reset) (record { up = there.up; no_command = refl }) in
          read.link (all-none LeavesPhy) (masked.link mask-leaves_phy reset);
    }
