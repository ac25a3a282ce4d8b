-- A driver without outstanding or staged slots offers slots, until no buffer is free or all slots except one are outstanding.
use Rattle.std.proofs.Common.{false, ◌≡◌, ◌<◌, ◌+◌, ◌-◌, ◌++◌, ◌∷◌, [], ℕ, List, length, ◌⊎◌, ⊎_elim, inl, inr}
use Rattle.std.proofs.Common.{refl, sym, ap, subst, ◌∙◌, arith}
use Rattle.dma_memory.specs.Owners.{copies}
use Rattle.descriptors.specs.RingLaws.{distance-forward, place, place-distance}
use Rattle.adapter.specs.Keeping.{Keeps}
use Rattle.adapter.specs.bus_types.bus.Bus.{Ghosts}
use Rattle.adapter.specs.bus_types.event.Access.TheVariants.{Writes}
use Rattle.adapter.proofs.DriverAccesses.{ran_by-join, ran_by-same}
use Rattle.adapter.specs.Calls.{IsReadyOver, Ran, Runs, at, only, stores_from}
use Rattle.adapter.specs.DriverState.{DriverState, holding, next_receive, receive_slot, with_owners}
use Rattle.bring_up.proofs.Steps.{IntervalsJoin}
use Rattle.bring_up.specs.ClearedDescriptors.{clears_from}
use Rattle.driver.specs.RefillSteps.{Stages}
use Rattle.driver.specs.Resetting.{OffersFree}

pub place-first : (n k : ℕ) → k < n → place n 0 k ≡ k
place-first n k below =
    place-distance n k 0 k (omega (arith, below)) below (distance-forward n 0 k below (omega arith) ∙ omega arith)

pub offers-free : {B : Type 0} (bus : Ghosts B) → IntervalsJoin bus → (b0 b1 b2 b3 : B) (numbers : List ℕ) (d0 d1 d3 : DriverState)
    → d0.oldest_receive ≡ 0 → d0.buffers ≡ [] → d0.staged ≡ []
    → Stages bus numbers (at b0 d0) (at b1 d1) → length d1.buffers + length d1.staged < d1.layout.rx
    → (d1.pool ≡ []) ⊎ (length d1.buffers + length d1.staged + 1 ≡ d1.layout.rx)
    → d3 ≡ with_owners d1 (d1.buffers ++ d1.staged) [] d1.pool [] → Keeps bus b0 b1 → Keeps bus b1 b2
    → ((d : DriverState) → IsReadyOver bus false (at b1 d) → d.oldest_receive ≡ 0 → length d.buffers + length d.staged ≡ length numbers
    → d.layout ≡ d0.layout
    → Ran bus false (only (clears_from (receive_slot (length numbers)) (d0.layout.rx - length numbers))) (at b1 d) (at b2 d))
    → Runs bus (only (Writes 0x2818 (next_receive d1) ∷ [])) (at b2 d1) (at b3 d3)
    → OffersFree bus (at b0 d0) (at b3 d3)
offers-free bus joins b0 b1 b2 b3 numbers d0 d1 d3 oldest none_out none_staged stages room full after keeps1 keeps2 clears offers =
    let counts = d0.layout in
    let n = counts.rx in
    let staged : d1 ≡ with_owners d0 [] numbers d1.pool d0.handed_out =
    stages.others
    ∙ ap (λ (list : List ℕ). with_owners d0 list (d0.staged ++ numbers) d1.pool d0.handed_out) none_out
    ∙ ap (λ (list : List ℕ). with_owners d0 [] (list ++ numbers) d1.pool d0.handed_out) none_staged in
    let done : d3 ≡ with_owners d0 numbers [] d1.pool [] =
    after ∙ ap (λ (d : DriverState). with_owners d (d.buffers ++ d.staged) [] d.pool []) staged in
    let left : d3.pool ≡ d1.pool = ap (λ (d : DriverState). d.pool) done in
    let few : 0 + length numbers < n = subst (λ (d : DriverState). length d.buffers + length d.staged < d.layout.rx) staged room in
    let below : length numbers < n = omega (arith, few) in
    let first : next_receive d0 ≡ 0 =
    ap (λ (o : ℕ). place n o (length d0.buffers + length d0.staged)) oldest
    ∙ ap (λ (list : List ℕ). place n 0 (length list + length d0.staged)) none_out
    ∙ ap (λ (list : List ℕ). place n 0 (0 + length list)) none_staged in
    let next : next_receive d1 ≡ length numbers =
    ap next_receive staged ∙ ap (λ (o : ℕ). place n o (0 + length numbers)) oldest ∙ place-first n (0 + length numbers) few ∙ omega arith in
    record {
      numbers = numbers;
      others = done ∙ ap (λ (rest : List ℕ). with_owners d0 numbers [] rest []) (sym left);
      pool = λ k. stages.pool k ∙ ap (λ (rest : List ℕ). copies k (numbers ++ rest)) (sym left);
      room = omega (arith, below);
      refilled =
          ⊎_elim
          (λ (none : d1.pool ≡ []). inl (left ∙ none))
          (λ (all : length d1.buffers + length d1.staged + 1 ≡ d1.layout.rx).
          inr (ap (λ (d : DriverState). length d.buffers + 1) done
          ∙ omega (arith, subst (λ (d : DriverState). length d.buffers + length d.staged + 1 ≡ d.layout.rx) staged all)
          ∙ sym (ap (λ (d : DriverState). d.layout.rx) done)))
          full;
      ran = λ held is.
          let one = stages.ran false held is in
          let e1 = holding held d1 in
          let is1 : IsReadyOver bus false (at b1 e1) = record { honest = keeps1.honest is.honest; ready = one.goes.flows.ready } in
          let two = clears e1 is1 (ap (λ (d : DriverState). d.oldest_receive) staged ∙ oldest)
          (ap (λ (d : DriverState). length d.buffers + length d.staged) staged ∙ omega arith)
          (ap (λ (d : DriverState). d.layout) staged) in
          let three = offers false held (record { honest = keeps2.honest is1.honest; ready = two.goes.flows.ready }) in
          ran_by-same bus _ _ b0 b3 (holding held d0) (holding held d3) (holding held d3) [] [] []
          (ap (λ (slot : ℕ). stores_from counts slot numbers
          ++ (clears_from (receive_slot (length numbers)) (n - length numbers) ++ Writes 0x2818 (next_receive d1) ∷ [])) first
          ∙ ap (λ (slot : ℕ). stores_from counts 0 numbers
          ++ (clears_from (receive_slot (length numbers)) (n - length numbers) ++ Writes 0x2818 slot ∷ [])) next)
          refl refl
          (ran_by-join bus joins _ _ b0 b1 b3 (holding held d0) e1 (holding held d3) [] [] [] [] one
          (ran_by-join bus joins _ _ b1 b2 b3 e1 e1 (holding held d3) [] [] [] [] two three));
    }
