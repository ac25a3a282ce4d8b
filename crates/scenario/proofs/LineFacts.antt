-- What the checks of a line prove about the line's words.
use Rattle.std.proofs.Common.{◌≡◌, ◌≤◌, ◌↔◌, ◌∙◌, ◌==◌, ℕ, Bool, true, false, List, Option, Some, None, Result, Ok, Err, IsTrue, Bor}
use Rattle.std.proofs.Common.{OnOk, IfErr, IsErrAnd, is_some, length, map, ap, refl, subst, sym, arith}
use Rattle.std.proofs.lemmas.Bool.{eq-eqb, eqb-true, false≢true}
use Rattle.std.proofs.lemmas.List.{length-map}
use Rattle.network_plan.specs.declared.plan.HostPlan.{HostPlan}
use Rattle.stations.specs.declared.tick.Tick.{Tick}
use Rattle.scenario.specs.Answers.{IsAnswerToLine, IsFaulty, IsFaultyCall, IsGood}
use Rattle.scenario.specs.HostOptions.{HaveValuesOnce, HaveRightForms, uses_in}
use Rattle.scenario.specs.Meanings.{CanAsk, HasHostWords, HasValues, IsRoomFor, after_line, call_words, changed_first}
use Rattle.scenario.specs.Meanings.{number_of, option_words, said_in_call, size_of_call, tick_words, ticks_in, with_command, with_item}
use Rattle.scenario.specs.SoFar.{Host, Said, SoFar, has_name, hosts_of, said_of}
use Rattle.scenario.specs.declared.command.Command.{Command}
use Rattle.scenario.specs.Spellings.{IsAddressText}
use Rattle.scenario.specs.Stops.{IfFault}
use Rattle.scenario.specs.Words.{Text, texts, word}
use Rattle.scenario.specs.declared.host_change.Item.{Item}
use Rattle.scenario.specs.declared.host_use.HostUse.{HostUse}
use Rattle.scenario.specs.declared.line_kind.CallKind.{CallKind}
use Rattle.scenario.specs.declared.line_kind.LineKind.{LineKind}
use Rattle.scenario.specs.declared.line_kind.LineKind.TheVariants as line
use Rattle.scenario.specs.declared.refusal.Fault.{Fault}
use Rattle.scenario.specs.declared.refusal.Fault.TheVariants as fault
use Rattle.scenario.specs.declared.refusal.Stop.{Stop}
use Rattle.scenario.specs.declared.refusal.Stop.TheVariants as stop

pub text-count : (words : List (Bor Text)) → length (texts words) ≡ length words
text-count words = length-map words (λ (one : Bor Text). one.now)

pub host-counted : (words : List (Bor Text)) (uses : List HostUse) (test : Bool) → 4 ≤ length words
    → uses ≡ uses_in (option_words (texts words)) → IsTrue test ↔ HaveValuesOnce uses → test ≡ true → HasHostWords (texts words)
host-counted words uses test least is told passes = record {
  least = omega (arith, text-count words, least);
  options = subst HaveValuesOnce is (told.0 passes);
}

pub host-valued : (words : List (Bor Text)) (uses : List HostUse) (address : Text) (test : Bool) → address ≡ word 2 (texts words)
    → IsAddressText address → uses ≡ uses_in (option_words (texts words)) → IsTrue test ↔ HaveRightForms uses → test ≡ true
    → HasValues line.Host (texts words)
host-valued words uses address test address_is spelled is told passes =
    (subst IsAddressText address_is spelled, subst HaveRightForms is (told.0 passes))

pub no-place : (place : Option ℕ) (test : Bool) → test ≡ is_some place → test ≡ false → place ≡ None
no-place None test is fails = refl
no-place (Some n) test is fails = absurd (false≢true (sym fails ∙ is))

pub none-before : (commands : List Command) (test : Bool) → test ≡ (length commands == 0) → test ≡ true → length (map said_of commands) ≡ 0
none-before commands test is passes = length-map commands said_of ∙ eqb-true (length commands) 0 (sym is ∙ passes)

pub some-before : (commands : List Command) (test : Bool) → test ≡ (length commands == 0) → test ≡ false
    → ¬ (length (map said_of commands) ≡ 0)
some-before commands test is fails none =
    false≢true (sym fails ∙ is ∙ eq-eqb (length commands) 0 (sym (length-map commands said_of) ∙ none))

pub each-fault : (one : Stop) (P Q : Fault → Type 0) → ((f : Fault) → P f → Q f) → IfFault one P → IfFault one Q
each-fault stop.Memory P Q step h = tt
each-fault (stop.Fault f) P Q step h = step f h

-- the answer if a `?` returned this reason
pub answer-stopped : (kind : LineKind) (before after : SoFar) (words : List Text) (result : Result (Unit {0}) Stop) (reason : Stop)
    → IsErrAnd result (λ one. one ≡ reason) → IfFault reason (IsFaulty kind before words) → IsAnswerToLine kind before words result after
answer-stopped kind before after words (Ok u) reason is faulty = absurd is
answer-stopped kind before after words (Err one) reason is faulty =
    subst (λ (why : Stop). IfFault why (IsFaulty kind before words)) (sym is) faulty

pub line-said-by : (kind : LineKind) (before after made : SoFar) (words : List Text) (result : Result (Unit {0}) Stop)
    → IsGood kind before words → made ≡ after_line kind before words → OnOk result (after ≡ made)
    → IfErr result (λ stopped. stopped ≡ stop.Memory) → IsAnswerToLine kind before words result after
line-said-by kind before after made words (Ok u) good is said memory = (good, said ∙ is)
line-said-by kind before after made words (Err stopped) good is said memory =
    subst (λ (one : Stop). IfFault one (IsFaulty kind before words)) (sym memory) tt

pub room-read : (name name' : Text) (one one' : Item) (plans plans' : List HostPlan) → name ≡ name' → one ≡ one' → plans ≡ plans'
    → IsRoomFor name one (hosts_of plans) → IsRoomFor name' one' (hosts_of plans')
room-read name name' one one' plans plans' name_is one_is plans_are room =
    subst (λ (p : List HostPlan). IsRoomFor name' one' (hosts_of p)) plans_are
    (subst (λ (i : Item). IsRoomFor name' i (hosts_of plans)) one_is
    (subst (λ (n : Text). IsRoomFor n one (hosts_of plans)) name_is room))

pub change-read : (name name' : Text) (one one' : Item) (plans plans' : List HostPlan) → name ≡ name' → one ≡ one' → plans ≡ plans'
    → changed_first (has_name name) (with_item one) (hosts_of plans) ≡ changed_first (has_name name') (with_item one') (hosts_of plans')
change-read name name' one one' plans plans' name_is one_is plans_are =
    ap (λ (n : Text). changed_first (has_name n) (with_item one) (hosts_of plans)) name_is
    ∙ ap (λ (i : Item). changed_first (has_name name') (with_item i) (hosts_of plans)) one_is
    ∙ ap (λ (p : List HostPlan). changed_first (has_name name') (with_item one') (hosts_of p)) plans_are

pub call-faulty : (kind : CallKind) (before : SoFar) (words call ticks : List Text) (hosts : List Host) (name : Text) (f : Fault)
    → hosts ≡ before.hosts → name ≡ word 1 call → call ≡ call_words words → ticks ≡ tick_words words
    → length (call_words words) ≡ size_of_call kind → CanAsk kind call → IsFaultyCall hosts name ticks f
    → IsFaulty (line.Call kind) before words f
call-faulty kind before words call ticks hosts name f hosts_are name_is call_is ticks_are count ask faulty =
    by_fault f (subst (λ (t : List Text). IsFaultyCall before.hosts (word 1 (call_words words)) t f) ticks_are
    (subst (λ (c : List Text). IsFaultyCall before.hosts (word 1 c) ticks f) call_is
    (subst (λ (n : Text). IsFaultyCall before.hosts n ticks f) name_is
    (subst (λ (h : List Host). IsFaultyCall h name ticks f) hosts_are faulty))))
  where
    asks : CanAsk kind (call_words words)
    asks = subst (CanAsk kind) call_is ask

    by_fault : (one : Fault) → IsFaultyCall before.hosts (word 1 (call_words words)) (tick_words words) one
        → IsFaulty (line.Call kind) before words one
    by_fault fault.Value h = (count, λ values. h values.1)
    by_fault fault.Name h = (count, (asks, h.0), h.1)
    by_fault fault.Word h = absurd h
    by_fault fault.Count h = absurd h
    by_fault fault.Order h = absurd h
    by_fault fault.Long h = absurd h
    by_fault fault.Text h = absurd h

pub call-said : (kind : CallKind) (before : SoFar) (words call tick_texts : List Text) (hosts : List Host) (name : Text) (said : Said)
    (host : ℕ) (ticks : List Tick) → hosts ≡ before.hosts → name ≡ word 1 call → call ≡ call_words words → tick_texts ≡ tick_words words
    → said ≡ said_in_call kind call host ticks → host ≡ number_of name hosts → ticks ≡ ticks_in hosts tick_texts
    → with_command said before ≡ after_line (line.Call kind) before words
call-said kind before words call tick_texts hosts name said host ticks hosts_are name_is call_is texts_are said_is host_is ticks_are =
    ap (λ (s : Said). with_command s before) (said_is
    ∙ ap (λ (c : List Text). said_in_call kind c host ticks) call_is
    ∙ ap (λ (h : ℕ). said_in_call kind (call_words words) h ticks) (host_is
    ∙ ap (λ (h : List Host). number_of name h) hosts_are
    ∙ ap (λ (n : Text). number_of n before.hosts) (name_is ∙ ap (word 1) call_is))
    ∙ ap (λ (t : List Tick). said_in_call kind (call_words words) (number_of (word 1 (call_words words)) before.hosts) t) (ticks_are
    ∙ ap (λ (h : List Host). ticks_in h tick_texts) hosts_are
    ∙ ap (ticks_in before.hosts) texts_are))
