-- An access over a lively bus, after the steps of the EEPROM and the PHY.
use Rattle.std.proofs.Common.{◌≡◌, ◌++◌, ◌∷◌, [], All, true, refl, ◌∙◌, arith}
use Rattle.std.specs.Bool.{⊤}
use Rattle.std.proofs.lemmas.List.Elements.{All-append, All-cons}
use Rattle.adapter_model.specs.State.{IsAdapter}
use Rattle.adapter_model.specs.World.{World}
use Rattle.adapter_model.specs.declared.step.StepKind.TheVariants.{EepromTick, PhyTick}
use Rattle.bus.specs.BusMembers.{KeepsProperties}
use Rattle.bus.specs.Law.{Acts, view}
use Rattle.bus.specs.LivelyBuses.{IsPrepared, IsQuietEvent, IsSameMachine, Lives, both_ticks, machine_bytes, machine_world}
use Rattle.bus.specs.LivelyBusLaws.{same_on}
use Rattle.bus.specs.Pasts.{Past}
use Rattle.bus.specs.TrailLaws.{trail_joins}
use Rattle.bus.specs.Trails.{IsAnswered, IsStep, past_of, world_after_access}
use Rattle.bus.specs.declared.event.Access.{Access}
use Rattle.bus.specs.declared.event.Event.TheVariants.{Accesses, Steps}
use Rattle.bus.specs.declared.lively_bus.LivelyBus.{LivelyBus}
use Rattle.bus.proofs.Lists.{all-none}
use Rattle.bus.proofs.StepsThenAccess.{happens_accesses, past-with_access, no_access}
use Rattle.bus.proofs.Trails.{trail_happens}

are-steps : (a p : LivelyBus) (prepared : IsPrepared a p) → All IsStep (both_ticks prepared.eeprom prepared.phy)
are-steps a p prepared =
    All-cons IsStep (Steps EepromTick true prepared.eeprom) (Steps PhyTick true prepared.phy ∷ []) tt
    (All-cons IsStep (Steps PhyTick true prepared.phy) [] tt (all-none IsStep))

are-quiet : (a p : LivelyBus) (prepared : IsPrepared a p) → All IsQuietEvent (both_ticks prepared.eeprom prepared.phy)
are-quiet a p prepared =
    All-cons IsQuietEvent (Steps EepromTick true prepared.eeprom) (Steps PhyTick true prepared.phy ∷ []) tt
    (All-cons IsQuietEvent (Steps PhyTick true prepared.phy) [] tt (all-none IsQuietEvent))

-- The access changes only the machine, and the same machine is lent.
pub record IsAccess (p b : LivelyBus) (access : Access) : Type 0 where
  pub lent : IsSameMachine p b
  pub accesses : b.accesses ≡ p.accesses
  pub answered : IsAnswered access (machine_world p)
  pub world : machine_world b ≡ world_after_access access (machine_world p)

pub lively-acts : (a p b : LivelyBus) (access : Access) (effect : World → World → Type 0) → IsPrepared a p → IsAccess p b access
    → IsAdapter (machine_world p).adapter → effect (machine_world p) (machine_world b)
    → Acts (view machine_world Lives (λ (bus : LivelyBus). ⊤)) a b access effect
lively-acts a p b access effect prepared is adapter does =
    let events = both_ticks prepared.eeprom prepared.phy in
    let middle = machine_world p in
    let past : Past = record (past_of events) { accesses = access ∷ [] } in
    record {
      middle = middle;
      past = past;
      only = refl;
      told = record {
        lent = same_on a p b prepared.lent is.lent;
        events = events ++ Accesses access ∷ [];
        trail = trail_joins events (Accesses access ∷ []) (machine_world a) middle (machine_world b) prepared.trail
            (is.answered, is.world);
        past_is = past-with_access events access (are-steps a p prepared);
        quiet = All-append IsQuietEvent events (Accesses access ∷ []) (are-quiet a p prepared)
            (All-cons IsQuietEvent (Accesses access) [] tt (all-none IsQuietEvent));
        eeprom = refl;
        phy = refl;
        count = omega (arith, is.accesses, prepared.count);
      };
      ticks = λ lively. record { eeprom = omega arith; phy = omega arith };
      before = happens_accesses (machine_world a) middle (past_of events) (access ∷ [])
          (no_access events (are-steps a p prepared))
          (trail_happens events (machine_world a) middle (are-steps a p prepared) prepared.trail);
      adapter = adapter;
      effect_is = does;
    }

pub size-prepared : (a p : LivelyBus) → IsPrepared a p → machine_bytes p ≡ machine_bytes a
size-prepared a p prepared =
    (trail_happens (both_ticks prepared.eeprom prepared.phy) (machine_world a) (machine_world p) (are-steps a p prepared)
    prepared.trail).steady.size

pub lively-keeps : (a p b : LivelyBus) → IsPrepared a p → IsSameMachine p b → machine_bytes b ≡ machine_bytes p
    → KeepsProperties machine_bytes IsSameMachine (λ (bus : LivelyBus). ⊤) (λ (bus : LivelyBus). ⊤) a b
lively-keeps a p b prepared same size = record {
  extent = size ∙ size-prepared a p prepared;
  lent_stays = same_on a p b prepared.lent same;
  honest = λ honest. honest;
  lively = λ lively. lively;
}
