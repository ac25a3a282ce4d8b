-- An access over a solo bus, with the ticks that precede it.
use Rattle.std.proofs.Common.{◌≡◌, ◌+◌, ◌++◌, ◌∷◌, [], Bool, true, List, length, if◌then◌else◌, refl, ap, ◌∙◌, arith}
use Rattle.std.specs.Bool.{⊤}
use Rattle.std.proofs.lemmas.List.{map-append}
use Rattle.bus.specs.BusMembers.{KeepsProperties}
use Rattle.bus.specs.Law.{Acts, view}
use Rattle.bus.specs.Pasts.{Past}
use Rattle.bus.specs.declared.event.Access.{Access}
use Rattle.bus.specs.TickGroups.{group_of}
use Rattle.solo_bus.specs.SoloBuses.{Prepared, Recounts, SoloState, is_solo_go, lively_ticks, solo_tick_of}
use Rattle.solo_bus.specs.SoloLaws.{are_free_joins, recounts_lively}
use Rattle.bus.specs.TrailLaws.{trail_joins}
use Rattle.bus.specs.Trails.{IsAnswered, past_of, world_after_access}
use Rattle.bus.specs.declared.event.Event.TheVariants.{Accesses}
use Rattle.adapter_model.specs.State.{IsAdapter}
use Rattle.adapter_model.specs.World.{World}
use Rattle.solo_bus.specs.declared.solo_bus.SoloTick.{SoloTick}
use Rattle.solo_bus.specs.declared.solo_bus.SoloTick.TheVariants.{Go}
use Rattle.bus.proofs.StepsThenAccess.{happens_accesses, past-with_access, no_access}
use Rattle.bus.proofs.Trails.{trail_happens}

abbrev pub solo_world : SoloState → World
solo_world solo = solo.world

abbrev pub is_lively : SoloState → Type 0
is_lively solo = solo.lively ≡ true

pub acts_on : (a p b : SoloState) (access : Access) (effect : World → World → Type 0) → Prepared a p
    → b ≡ record p { world = world_after_access access p.world } → IsAnswered access p.world → IsAdapter p.world.adapter
    → effect p.world b.world → Acts (view solo_world Recounts is_lively) a b access effect
acts_on a p b access effect prepared after answered adapter does =
    let plays = prepared.plays in
    let events = plays.events in
    let middle = p.world in
    let own = lively_ticks a.lively in
    let group = group_of is_solo_go a.waiting in
    let world_b : b.world ≡ world_after_access access p.world = ap solo_world after in
    let waiting_b : b.waiting ≡ p.waiting = ap (λ (s : SoloState). s.waiting) after in
    let wire_b : b.wire ≡ p.wire = ap (λ (s : SoloState). s.wire) after in
    let lively_b : b.lively ≡ p.lively = ap (λ (s : SoloState). s.lively) after in
    let count_b : b.accesses ≡ p.accesses = ap (λ (s : SoloState). s.accesses) after in
    let past : Past = record (past_of events) { accesses = access ∷ [] } in
    let told : Recounts a b past = record {
      events = events ++ Accesses access ∷ [];
      trail = trail_joins events (Accesses access ∷ []) a.world middle b.world plays.trail (answered, world_b);
      past_is = past-with_access events access plays.are;
      played = map-append solo_tick_of events (Accesses access ∷ []) ∙ ap (λ (ticks : List SoloTick). ticks ++ Go ∷ []) plays.played;
      waiting = waiting_b ∙ plays.waiting;
      wire = record {
        free = are_free_joins events (Accesses access ∷ []) (length a.wire) (length a.wire + length (past_of events).put) refl
            plays.wire.free tt;
        frames = wire_b ∙ plays.wire.frames;
      };
      lively = lively_b ∙ plays.lively;
      count = omega (arith, count_b, prepared.count);
    } in
    let own_is = recounts_lively a b past told in
    record {
      middle = middle;
      past = past;
      only = refl;
      told = told;
      ticks = λ lively.
          let one : (if a.lively then length past.accesses else 0) ≡ 1 = ap (λ (is : Bool). if is then 1 else 0) lively in
          record { eeprom = omega (arith, own_is.eeprom, one); phy = omega (arith, own_is.phy, one) };
      before = happens_accesses a.world middle (past_of events) (access ∷ []) (no_access events plays.are)
          (trail_happens events a.world middle plays.are plays.trail);
      adapter = adapter;
      effect_is = does;
    }

pub size_prepared : (a p : SoloState) → Prepared a p → length p.world.memory ≡ length a.world.memory
size_prepared a p prepared = (trail_happens prepared.plays.events a.world p.world prepared.plays.are prepared.plays.trail).steady.size

-- An access, with the ticks that precede it, doesn't change what no access over a bus changes (`KeepsProperties`).
pub access_keeps : (a p b : SoloState) (w : World) → Prepared a p → b ≡ record p { world = w } → length w.memory ≡ length p.world.memory
    → KeepsProperties (λ (bus : SoloState). length bus.world.memory) (λ (old new : SoloState). new.lively ≡ old.lively)
    (λ (bus : SoloState). ⊤) (λ (bus : SoloState). bus.lively ≡ true) a b
access_keeps a p b w prepared state size =
    let lively : b.lively ≡ a.lively = ap (λ (bus : SoloState). bus.lively) state ∙ prepared.plays.lively in
    record {
      extent = ap (λ (bus : SoloState). length bus.world.memory) state ∙ size ∙ size_prepared a p prepared;
      lent_stays = lively;
      honest = λ honest. honest;
      lively = λ is. lively ∙ is;
    }
