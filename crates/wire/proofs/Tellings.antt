-- `Tells` for the happenings of each kind of event.
use Rattle.std.proofs.Common.{◌≡◌, ◌==◌, ◌&&◌, ◌++◌, ◌∷◌, [], ℕ, Bool, true, false, List, Option, if◌then◌else◌, map}
use Rattle.std.proofs.Common.{refl, sym, ap, subst, ◌∙◌, arith}
use Rattle.std.specs.Prelude.{Err, Ok, Result}
use Rattle.std.proofs.lemmas.Bool.Decides.{Decides-eqb, Decides-like, same_from_decides}
use Rattle.std.proofs.lemmas.List.{append-nil}
use Rattle.descriptors.specs.Frames.{padded}
use Rattle.driver.specs.SendSteps.{SendAnswer, accepted_by}
use Rattle.packet_socket.specs.HostCalls.{Given, given_for}
use Rattle.packet_socket.specs.declared.receive.RecvError.{RecvError}
use Rattle.stations.specs.AtomicSteps.{AtomicStep}
use Rattle.host_calls.proofs.HostLists.{accepted-none, given-none, holding-none, sending-none}
use Rattle.host_calls.specs.Lists.{holding_in_one, sending_in_one}
use Rattle.host_calls.proofs.Laws.{lists-append}
use Rattle.host_calls.proofs.ToldAround.{around_ticks}
use Rattle.host_calls.specs.Fates.{Mark, marks}
use Rattle.host_calls.specs.Happenings.{Accepted, Given as WasGiven, Happening, accepted, given, happened_in, missed, of_host, put, reached}
use Rattle.host_calls.specs.Happenings.{accepted_in_one, given_in_one, missed_of, put_in_one, reached_by, stored, stored_by}
use Rattle.host_calls.specs.Happenings.{tick_happenings, tick_happenings_around, toward, toward_by}
use Rattle.stations.specs.declared.outcomes.Numbered.{Numbered}
use Rattle.stations.specs.declared.tick.Tick.{Tick}
use Rattle.std.specs.List.{flat_map}
use Rattle.std.proofs.lemmas.Grind.{flat_map-append}
use Rattle.std.proofs.lemmas.List.Sums.{sum_by-append}
use Rattle.network_plan.specs.Answers.{FrameAnswer}
use Rattle.network_plan.specs.declared.reply.Answer.TheVariants.{Joined, Left, Received, Sent}
use Rattle.packet_socket.specs.HostEffects.{given_by}
use Rattle.wire.specs.Runs.{accepted_by_answer, given_by_answer, joined_of, left_by_answer}
use Rattle.wire.proofs.Delivering.{Tells}

pub tells-steps : (k : ℕ) (steps : List AtomicStep) (wires : ℕ → Option ℕ) → Tells k (happened_in steps) steps wires [] []
tells-steps k steps wires = record {
  put = refl;
  reached = refl;
  toward = refl;
  stored = refl;
  missed = refl;
  sending = sending-none k steps;
  holding = holding-none k steps;
  accepted = ap (map padded) (accepted-none k steps);
  given = λ socket. given-none k socket steps;
}

-- Ticks of a call

none-of : {T : Type 0} (here : Bool) → (let none : List T = [] in none) ≡ (if here then [] else [])
none-of true = refl
none-of false = refl

pub tells-call : (k host : ℕ) (steps : List AtomicStep) (wires : ℕ → Option ℕ)
    → Tells k (happened_in steps) steps wires (of_host k host []) (of_host k host [])
tells-call k host steps wires =
    subst (λ (frames : List (List ℕ)). Tells k (happened_in steps) steps wires (of_host k host []) frames) (none-of (k == host))
    (subst (λ (list : List Given). Tells k (happened_in steps) steps wires list []) (none-of (k == host)) (tells-steps k steps wires))

-- A frame that was accepted comes before the happenings of ticks

accepted-one : (here : Bool) (frame : List ℕ) (behind : List (List ℕ)) → behind ≡ []
    → map padded (((if here then frame ∷ [] else []) ++ []) ++ behind) ≡ (if here then padded frame ∷ [] else [])
accepted-one true frame behind none = ap (λ (list : List (List ℕ)). padded frame ∷ map padded list) none
accepted-one false frame behind none = ap (map padded) none

pub tells-send : (k host : ℕ) (frame : List ℕ) (answer : SendAnswer) (steps : List AtomicStep) (wires : ℕ → Option ℕ)
    → Tells k (accepted_by_answer host frame (Sent answer) ++ happened_in steps) steps wires (of_host k host [])
    (of_host k host (accepted_by answer frame))
tells-send k host frame (Ok u) steps wires =
    let lists = lists-append k (Accepted host frame ∷ []) (happened_in steps) in
    let missed = lists.missed in
    record {
      put = lists.put;
      reached = lists.reached;
      toward = lists.toward wires;
      stored = lists.stored;
      missed = missed ∙ omega arith;
      sending = sending-none k steps;
      holding = holding-none k steps;
      accepted = ap (map padded) lists.accepted ∙ accepted-one (k == host) frame (accepted k (happened_in steps)) (accepted-none k steps);
      given = λ socket. lists.given socket ∙ given-none k socket steps ∙ ap (given_for socket) (none-of (k == host));
    }
tells-send k host frame (Err error) steps wires = tells-call k host steps wires

-- Frames that were returned come after the happenings of ticks

abbrev pub gives : ℕ → List Given → List Happening
gives host list = map (λ (one : Given). WasGiven host one.socket one.frame) list

gives-put : (k host : ℕ) (list : List Given) → put k (gives host list) ≡ []
gives-put k host [] = refl
gives-put k host (one ∷ list) = gives-put k host list

gives-reached : (k host : ℕ) (list : List Given) → reached k (gives host list) ≡ []
gives-reached k host [] = refl
gives-reached k host (one ∷ list) = gives-reached k host list

gives-stored : (k host : ℕ) (list : List Given) → stored k (gives host list) ≡ []
gives-stored k host [] = refl
gives-stored k host (one ∷ list) = gives-stored k host list

gives-accepted : (k host : ℕ) (list : List Given) → accepted k (gives host list) ≡ []
gives-accepted k host [] = refl
gives-accepted k host (one ∷ list) = gives-accepted k host list

gives-missed : (k host : ℕ) (list : List Given) → missed k (gives host list) ≡ 0
gives-missed k host [] = refl
gives-missed k host (one ∷ list) = gives-missed k host list

gives-marks : (k host : ℕ) (list : List Given) → marks k (gives host list) ≡ []
gives-marks k host [] = refl
gives-marks k host (one ∷ list) = gives-marks k host list

gives-sending : (k host : ℕ) (list : List Given) → flat_map (sending_in_one k) (gives host list) ≡ []
gives-sending k host [] = refl
gives-sending k host (one ∷ list) = gives-sending k host list

gives-holding : (k host : ℕ) (list : List Given) → flat_map (holding_in_one k) (gives host list) ≡ []
gives-holding k host [] = refl
gives-holding k host (one ∷ list) = gives-holding k host list

gives-toward : (wires : ℕ → Option ℕ) (k host : ℕ) (list : List Given) → toward wires k (gives host list) ≡ []
gives-toward wires k host [] = refl
gives-toward wires k host (one ∷ list) = gives-toward wires k host list

same-socket : (s socket : ℕ) → (s == socket) ≡ (socket == s)
same-socket s socket =
    same_from_decides (s == socket) (socket == s) (Decides-eqb s socket) (Decides-like (socket == s) sym sym (Decides-eqb socket s))

-- the frames that socket s returned, if `here` is true, else no frame
listed : (here : Bool) (s : ℕ) (list : List Given) → List (List ℕ)
listed here s [] = []
listed here s (one ∷ list) = (if here && (s == one.socket) then one.frame ∷ [] else []) ++ listed here s list

gives-listed : (k host s : ℕ) (list : List Given) → given k s (gives host list) ≡ listed (k == host) s list
unfolding listed
gives-listed k host s [] = refl
gives-listed k host s (one ∷ list) =
    ap (λ (later : List (List ℕ)). (if (k == host) && (s == one.socket) then one.frame ∷ [] else []) ++ later) (gives-listed k host s list)

listed-for : (here : Bool) (s : ℕ) (list : List Given) → listed here s list ≡ given_for s (if here then list else [])
unfolding listed
listed-for true s [] = refl
listed-for false s [] = refl
listed-for false s (one ∷ list) = listed-for false s list
listed-for true s (one ∷ list) =
    ap (λ (b : Bool). (if b then one.frame ∷ [] else []) ++ listed true s list) (same-socket s one.socket)
    ∙ ap (λ (later : List (List ℕ)). (if one.socket == s then one.frame ∷ [] else []) ++ later) (listed-for true s list)
    ∙ taken (one.socket == s)
  where
    taken : (b : Bool) → (if b then one.frame ∷ [] else []) ++ given_for s list
        ≡ map (λ (g : Given). g.frame) (if b then one ∷ Rattle.std.specs.List.filter (λ (g : Given). g.socket == s) list
        else Rattle.std.specs.List.filter (λ (g : Given). g.socket == s) list)
    taken true = refl
    taken false = refl

pub tells-given : (k host : ℕ) (list : List Given) (steps : List AtomicStep) (wires : ℕ → Option ℕ)
    → Tells k (happened_in steps ++ gives host list) steps wires (of_host k host list) (of_host k host [])
tells-given k host list steps wires =
    let lists = lists-append k (happened_in steps) (gives host list) in
    let lost = lists.missed in
    record {
      put = lists.put ∙ ap (λ (later : List (List ℕ)). put k (happened_in steps) ++ later) (gives-put k host list) ∙ append-nil _;
      reached =
          lists.reached ∙ ap (λ (later : List (List ℕ)). reached k (happened_in steps) ++ later) (gives-reached k host list) ∙ append-nil _;
      toward =
          lists.toward wires ∙ ap (λ (later : List (List ℕ)). toward wires k (happened_in steps) ++ later) (gives-toward wires k host list)
          ∙ append-nil _;
      stored =
          lists.stored ∙ ap (λ (later : List (List ℕ)). stored k (happened_in steps) ++ later) (gives-stored k host list) ∙ append-nil _;
      missed = omega (arith, lost, gives-missed k host list);
      sending =
          flat_map-append (sending_in_one k) (happened_in steps) (gives host list)
          ∙ ap (λ (front : List (List ℕ)). front ++ flat_map (sending_in_one k) (gives host list)) (sending-none k steps)
          ∙ gives-sending k host list;
      holding =
          flat_map-append (holding_in_one k) (happened_in steps) (gives host list)
          ∙ ap (λ (front : List (List ℕ)). front ++ flat_map (holding_in_one k) (gives host list)) (holding-none k steps)
          ∙ gives-holding k host list;
      accepted =
          ap (map padded) (lists.accepted
          ∙ ap (λ (later : List (List ℕ)). accepted k (happened_in steps) ++ later) (gives-accepted k host list)
          ∙ append-nil _ ∙ accepted-none k steps)
          ∙ none-of (k == host);
      given = λ s.
          lists.given s
          ∙ ap (λ (first : List (List ℕ)). first ++ given k s (gives host list)) (given-none k s steps)
          ∙ gives-listed k host s list
          ∙ listed-for (k == host) s list;
    }

pub tells-recv : (k host socket : ℕ) (answer : Result (List ℕ) RecvError) (steps : List AtomicStep) (wires : ℕ → Option ℕ)
    → Tells k (happened_in steps ++ given_by_answer host socket (Received answer)) steps wires (of_host k host (given_by socket answer))
    (of_host k host [])
tells-recv k host socket (Ok frame) steps wires = tells-given k host (record { socket = socket; frame = frame } ∷ []) steps wires
tells-recv k host socket (Err error) steps wires = tells-given k host [] steps wires

-- The marks of a host follow from the atomic steps only

pub marks-send : (k host : ℕ) (frame : List ℕ) (answer : SendAnswer) (steps : List AtomicStep)
    → marks k (accepted_by_answer host frame (Sent answer) ++ happened_in steps) ≡ marks k (happened_in steps)
marks-send k host frame (Ok u) steps = (lists-append k (Accepted host frame ∷ []) (happened_in steps)).marks
marks-send k host frame (Err error) steps = refl

pub marks-given : (k host : ℕ) (list : List Given) (steps : List AtomicStep)
    → marks k (happened_in steps ++ gives host list) ≡ marks k (happened_in steps)
marks-given k host list steps =
    (lists-append k (happened_in steps) (gives host list)).marks
    ∙ ap (λ (later : List Mark). marks k (happened_in steps) ++ later) (gives-marks k host list) ∙ append-nil _

pub marks-recv : (k host socket : ℕ) (answer : Result (List ℕ) RecvError) (steps : List AtomicStep)
    → marks k (happened_in steps ++ given_by_answer host socket (Received answer)) ≡ marks k (happened_in steps)
marks-recv k host socket (Ok frame) steps = marks-given k host (record { socket = socket; frame = frame } ∷ []) steps
marks-recv k host socket (Err error) steps = marks-given k host [] steps

-- A group that was joined or left is among the happenings, and adds to no list of frames

pub around-list : {X : Type 0} (f : Happening → List X) (middle : List Happening) (ticks : List Tick) (outcomes : List Numbered)
    → flat_map f middle ≡ [] → flat_map f (tick_happenings_around middle ticks outcomes) ≡ flat_map f (tick_happenings ticks outcomes)
around-list {X} f middle ticks outcomes none =
    let between = around_ticks middle ticks outcomes in
    ap (flat_map f) between.all ∙ flat_map-append f between.before (middle ++ between.behind)
    ∙ ap (λ (list : List X). flat_map f between.before ++ list)
    (flat_map-append f middle between.behind ∙ ap (λ (list : List X). list ++ flat_map f between.behind) none)
    ∙ sym (flat_map-append f between.before between.behind) ∙ sym (ap (flat_map f) between.ticks)

around-missed : (k : ℕ) (middle : List Happening) (ticks : List Tick) (outcomes : List Numbered)
    → missed k middle ≡ 0 → missed k (tick_happenings_around middle ticks outcomes) ≡ missed k (tick_happenings ticks outcomes)
around-missed k middle ticks outcomes none =
    let between = around_ticks middle ticks outcomes in
    let whole = sum_by-append (missed_of k) between.before (middle ++ between.behind) in
    let behind = sum_by-append (missed_of k) middle between.behind in
    let alone = sum_by-append (missed_of k) between.before between.behind in
    ap (missed k) between.all ∙ omega (arith, whole, behind, alone, none) ∙ sym (ap (missed k) between.ticks)

-- These happenings add nothing to any list of frames.
pub record IsOfGroups (k : ℕ) (wires : ℕ → Option ℕ) (middle : List Happening) : Type 0 where
  pub put : put k middle ≡ []
  pub reached : reached k middle ≡ []
  pub toward : toward wires k middle ≡ []
  pub stored : stored k middle ≡ []
  pub accepted : accepted k middle ≡ []
  pub missed : missed k middle ≡ 0
  pub sending : flat_map (sending_in_one k) middle ≡ []
  pub holding : flat_map (holding_in_one k) middle ≡ []
  pub given : (socket : ℕ) → given k socket middle ≡ []

pub tells-group : (k host : ℕ) (middle : List Happening) (ticks : List Tick) (outcomes : List Numbered) (steps : List AtomicStep)
    (wires : ℕ → Option ℕ) → IsOfGroups k wires middle → tick_happenings ticks outcomes ≡ happened_in steps
    → Tells k (tick_happenings_around middle ticks outcomes) steps wires (of_host k host []) (of_host k host [])
tells-group k host middle ticks outcomes steps wires none said =
    let alone = tells-call k host steps wires in
    record {
      put = around-list (put_in_one k) middle ticks outcomes none.put ∙ ap (put k) said;
      reached = around-list (reached_by k) middle ticks outcomes none.reached ∙ ap (reached k) said;
      toward = around-list (toward_by wires k) middle ticks outcomes none.toward ∙ ap (toward wires k) said;
      stored = around-list (stored_by k) middle ticks outcomes none.stored ∙ ap (stored k) said;
      missed = around-missed k middle ticks outcomes none.missed ∙ ap (missed k) said;
      sending = around-list (sending_in_one k) middle ticks outcomes none.sending ∙ ap (flat_map (sending_in_one k)) said ∙ alone.sending;
      holding = around-list (holding_in_one k) middle ticks outcomes none.holding ∙ ap (flat_map (holding_in_one k)) said ∙ alone.holding;
      accepted =
          ap (map padded) (around-list (accepted_in_one k) middle ticks outcomes none.accepted ∙ ap (accepted k) said) ∙ alone.accepted;
      given = λ s. around-list (given_in_one k s) middle ticks outcomes (none.given s) ∙ ap (given k s) said ∙ alone.given s;
    }

-- no happening adds nothing to any list
none-adds_none : (k : ℕ) (wires : ℕ → Option ℕ) → IsOfGroups k wires []
none-adds_none k wires = record {
  put = refl;
  reached = refl;
  toward = refl;
  stored = refl;
  accepted = refl;
  missed = refl;
  sending = refl;
  holding = refl;
  given = λ socket. refl;
}

pub joined-adds_none : (k host : ℕ) (group : List ℕ) (answer : FrameAnswer) (wires : ℕ → Option ℕ)
    → IsOfGroups k wires (joined_of host group answer)
joined-adds_none k host group (Joined (Ok u)) wires = record {
  put = refl;
  reached = refl;
  toward = refl;
  stored = refl;
  accepted = refl;
  missed = refl;
  sending = refl;
  holding = refl;
  given = λ socket. refl;
}
joined-adds_none k host group _ wires = none-adds_none k wires

pub left-adds_none : (k host : ℕ) (group : List ℕ) (answer : FrameAnswer) (wires : ℕ → Option ℕ)
    → IsOfGroups k wires (left_by_answer host group answer)
left-adds_none k host group (Left (Ok u)) wires = record {
  put = refl;
  reached = refl;
  toward = refl;
  stored = refl;
  accepted = refl;
  missed = refl;
  sending = refl;
  holding = refl;
  given = λ socket. refl;
}
left-adds_none k host group _ wires = none-adds_none k wires
