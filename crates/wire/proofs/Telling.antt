-- What a tick outside a call did, by the tick that was played; results that are Ok or Err.
use Rattle.std.proofs.Common.{◌≡◌, subst, sym}
use Rattle.std.specs.Prelude.{Err, IfErr, Ok, OnOk, Result, false, true}
use Rattle.std.specs.Result.{IsErrAnd, is_err}
use Rattle.stations.specs.declared.tick.Tick.{Tick}
use Rattle.network_plan.specs.EventCalls.{Alone}
use Rattle.network_plan.specs.declared.reply.Reply.{Reply}
use Rattle.wire.specs.Equations.{NetworkStands}
use Rattle.wire.specs.PlayedCalls.{TickPlayed}
use Rattle.host_calls.specs.Networks.{NetworkState}
use Rattle.wire.proofs.Playing.{hosts-as}
use Rattle.wire.proofs.Running.{KindRuns, tick-runs}

pub tick-runs-as : (old new : NetworkState) (tick : Tick) (reply : Reply) → new.hosts ≡ old.hosts → NetworkStands old
    → TickPlayed tick reply old.stations new.stations → KindRuns (Alone tick) old reply new
tick-runs-as old new tick reply hosts stands played =
    hosts-as (KindRuns (Alone tick) old reply) new old.hosts hosts (tick-runs old new.stations tick reply stands played)

pub on-ok : {T E : Type 0} (result : Result T E) (P Q : Type 0) → (P → Q) → OnOk result P → OnOk result Q
on-ok (Ok value) P Q then_holds holds = then_holds holds
on-ok (Err error) P Q then_holds holds = holds

pub where-ok : {T E : Type 0} (result : Result T E) (P : Type 0) → OnOk result P → is_err result ≡ false → P
where-ok (Ok value) P holds ok = holds
where-ok (Err error) P holds ok = absurd (cc)

pub where-err : {T E : Type 0} (result : Result T E) (P : Type 0) → IfErr result (λ error. P) → is_err result ≡ true → P
where-err (Ok value) P holds err = absurd (cc)
where-err (Err error) P holds err = holds

pub passed-on : {T E : Type 0} (result : Result T E) (error : E) (P : E → Type 0) → IsErrAnd result (λ now. now ≡ error) → P error
    → IfErr result P
passed-on (Ok value) error P is holds = tt
passed-on (Err now) error P is holds = subst P (sym is) holds

pub whatever-err : {T E : Type 0} (result : Result T E) (P : Type 0) → P → IfErr result (λ error. P)
whatever-err (Ok value) P holds = tt
whatever-err (Err error) P holds = holds

pub either-way : {T E : Type 0} (result : Result T E) (P Q R : Type 0) → OnOk result P → IfErr result (λ error. Q) → (P → R) → (Q → R) → R
either-way (Ok value) P Q R ok err from_ok from_err = from_ok ok
either-way (Err error) P Q R ok err from_ok from_err = from_err err

pub on-err : {T E : Type 0} (result : Result T E) (P Q : Type 0) → (P → Q) → IfErr result (λ error. P) → IfErr result (λ error. Q)
on-err (Ok value) P Q then_holds holds = tt
on-err (Err error) P Q then_holds holds = then_holds holds
