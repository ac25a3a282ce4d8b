-- The start of negotiation and the wait for the link over an honest bus, command by command.
use Rattle.std.proofs.Common.{◌≡◌, ◌≢◌, ◌+◌, ◌*◌, ℕ, Result, Err, Ok, bit_and, refl, subst, ◌∙◌, arith}
use Rattle.std.proofs.lemmas.Bool.{false≢true}
use Rattle.adapter.specs.Pasts.{nothing}
use Rattle.adapter.specs.bus_types.bus.Bus.{Ghosts}
use Rattle.bring_up.specs.declared.init_error.InitError.{InitError}
use Rattle.bring_up.specs.declared.init_error.InitError.TheVariants.{NoLink, PhyTimeout}
use Rattle.bring_up.specs.Link.{AwaitsLink, Commands, IsNegotiating, NeedsMoreThan, Negotiates, restart_word, status_word}
use Rattle.bring_up.proofs.MdicAccesses.{AsksTimes, asks-both, asks-fewer, asks-none}
use Rattle.bring_up.proofs.PhyCommands.{management_behind}
use Rattle.bring_up.proofs.LinkTicks.{NotBoth, Rounds, negotiating, no-rounds, one-round, seen-of, up-of}
use Rattle.bring_up.proofs.Steps.{IntervalsJoin}

pub negotiates : {B : Type 0} (bus : Ghosts B) (old new : B) (answer : ℕ) (done : Unit {0})
    → Commands bus restart_word (Ok answer) old new → Negotiates bus (Ok done) old new
negotiates bus old new answer done commands = record {
  asks = commands.asks;
  link = commands.link;
  started = negotiating (bus.lively old) commands.asks.past.phy_ticks (management_behind (bus.world old)) (bus.world new).adapter answer
      commands.ends;
  late = tt;
  in_time = λ ticks. refl;
}

pub negotiates-late : {B : Type 0} (bus : Ghosts B) (old new : B) (error told : InitError)
    → Commands bus restart_word (Err error) old new → Negotiates bus (Err told) old new
negotiates-late bus old new error told commands = record {
  asks = commands.asks;
  link = commands.link;
  started = tt;
  late = commands.late;
  in_time = λ ticks. absurd (false≢true (commands.in_time ticks));
}

-- The link wasn't seen in this number of rounds, each with at least two accesses.
pub record Awaits {B : Type 0} (bus : Ghosts B) (old now : B) (rounds : ℕ) : Type 0 where
  pub asked : AsksTimes bus old now 0x0020 (2 * rounds)
  pub link : (bus.world now).adapter.phy.link ≡ (bus.world old).adapter.phy.link
  pub counted : bus.lively old → IsNegotiating (bus.world old).adapter → Rounds rounds (management_behind (bus.world now))

pub begins : {B : Type 0} (bus : Ghosts B) → ((b : B) → bus.happened b b nothing)
    → (b : B) → Awaits bus b b 0
begins bus stays b = record {
  asked = asks-none bus stays b 0x0020;
  link = refl;
  counted = λ ticks begun. no-rounds (bus.world b).adapter begun;
}

commands-both : {B : Type 0} (bus : Ghosts B) → IntervalsJoin bus
    → (old now new : B) (rounds : ℕ) (result : Result ℕ InitError) → Awaits bus old now rounds
    → Commands bus status_word result now new
    → AsksTimes bus old new 0x0020 (2 * rounds + 2)
commands-both bus joins old now new rounds result awaits commands =
    asks-both bus joins old now new 0x0020 (2 * rounds) 2 awaits.asked
    (record { asks = commands.asks; often = commands.accesses })

pub awaits-on : {B : Type 0} (bus : Ghosts B) → IntervalsJoin bus
    → (old now new : B) (rounds answer : ℕ) → (bus.lively old → bus.lively now) → Awaits bus old now rounds
    → Commands bus status_word (Ok answer) now new
    → NotBoth answer → Awaits bus old new (rounds + 1)
awaits-on bus joins old now new rounds answer alive awaits commands down = record {
  asked = asks-fewer bus old new 0x0020 (2 * rounds + 2) (2 * (rounds + 1)) (omega arith)
      (commands-both bus joins old now new rounds (Ok answer) awaits commands);
  link = commands.link ∙ awaits.link;
  counted =
      λ ticks begun. one-round (bus.lively now) commands.asks.past.phy_ticks (management_behind (bus.world now))
      (management_behind (bus.world new)) rounds answer
      (alive ticks) commands.ends down (awaits.counted ticks begun);
}

pub awaits-up : {B : Type 0} (bus : Ghosts B) → IntervalsJoin bus
    → (old now new : B) (rounds answer : ℕ) (done : Unit {0}) → Awaits bus old now rounds
    → Commands bus status_word (Ok answer) now new
    → bit_and answer 0x04 ≢ 0 → AwaitsLink bus (Ok done) old new
awaits-up bus joins old now new rounds answer done awaits commands set = record {
  asks = (commands-both bus joins old now new rounds (Ok answer) awaits commands).asks;
  link = commands.link ∙ awaits.link;
  seen = seen-of (bus.lively now) commands.asks.past.phy_ticks (management_behind (bus.world now))
      (management_behind (bus.world new)) answer commands.ends set;
  up = up-of (bus.lively now) commands.asks.past.phy_ticks (management_behind (bus.world now)) (bus.world new) answer commands.ends set;
  late = tt;
  no_link = λ is. absurd (cc);
  in_time = λ ticks is. cc;
  slow = λ ticks begun is. absurd (cc);
}

pub awaits-late : {B : Type 0} (bus : Ghosts B) → IntervalsJoin bus
    → (old now new : B) (rounds : ℕ) (error told : InitError) → told ≡ PhyTimeout → (bus.lively old → bus.lively now)
    → Awaits bus old now rounds
    → Commands bus status_word (Err error) now new → AwaitsLink bus (Err told) old new
awaits-late bus joins old now new rounds error told timeout alive awaits commands =
    let both = asks-both bus joins old now new 0x0020 (2 * rounds) 1000 awaits.asked
    (record { asks = commands.asks; often = commands.late }) in
    record {
      asks = both.asks;
      link = commands.link ∙ awaits.link;
      seen = tt;
      up = tt;
      late = let often = both.often in omega arith;
      no_link = λ is. absurd (cc);
      in_time = λ ticks is. false≢true (commands.in_time (alive ticks));
      slow = λ ticks begun is. absurd (cc);
    }

pub awaits-none : {B : Type 0} (bus : Ghosts B) (old now : B) (rounds : ℕ)
    → rounds ≡ 1000
    → Awaits bus old now rounds → AwaitsLink bus (Err NoLink) old now
awaits-none bus old now rounds all awaits =
    let often = awaits.asked.often in
    record {
      asks = awaits.asked.asks;
      link = awaits.link;
      seen = tt;
      up = tt;
      late = omega arith;
      no_link = λ is. omega arith;
      in_time = λ ticks is. cc;
      slow = λ ticks begun is.
          let needs = (awaits.counted ticks begun).needs (omega arith) in
          let twice : 2 * rounds ≡ 2000 = omega arith in
          subst (NeedsMoreThan 2000) awaits.link (subst (λ (n : ℕ). NeedsMoreThan n (bus.world now).adapter.phy.link) twice needs);
    }
