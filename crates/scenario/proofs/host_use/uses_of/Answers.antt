use Rattle.std.proofs.Common.{◌≡◌, ◌∙◌, ◌<◌, ◌+◌, ◌-◌, ◌++◌, ℕ, suc, List, [], ◌∷◌, Bor, ap, sym, take, drop, drop-cons, get_or}
use Rattle.std.proofs.Common.{append_assoc, arith, length}
use Rattle.std.proofs.lemmas.List.{append-nil, drop-drop, drop_all, length-drop, take_all}
use Rattle.scenario.specs.HostOptions.{uses_in}
use Rattle.scenario.specs.Words.{Text, texts}
use Rattle.scenario.specs.declared.host_use.HostUse.{HostUse}
use Rattle.scenario.proofs.host_use.uses_of.Goals as goal

-- the uses so far and those of the remaining words remain all uses, after one more use was read
use-more : (words : List (Bor Text)) (place taken : ℕ) (d : Bor Text) (one : HostUse) (used : List HostUse) (behind : List (Bor Text))
    → place < length words → behind ≡ drop (place + 1) words
    → uses_in ((get_or words place d).now ∷ texts behind) ≡ one ∷ uses_in (texts (drop taken behind))
    → used ++ uses_in (texts (drop place words)) ≡ uses_in (texts words)
    → (used ++ one ∷ []) ++ uses_in (texts (drop (place + (1 + taken)) words)) ≡ uses_in (texts words)
use-more words place taken d one used behind there is first before =
    let next : suc place ≡ place + 1 = omega arith in
    let past : place + (1 + taken) ≡ place + 1 + taken = omega arith in
    let cut : drop place words ≡ get_or words place d ∷ behind = drop-cons words place d there
    ∙ ap (λ (k : ℕ). get_or words place d ∷ drop k words) next
    ∙ ap (λ (ws : List (Bor Text)). get_or words place d ∷ ws) (sym is) in
    let left : drop (place + (1 + taken)) words ≡ drop taken behind = ap (λ (k : ℕ). drop k words) past
    ∙ sym (drop-drop taken (place + 1) words) ∙ ap (drop taken) (sym is) in
    append_assoc used (one ∷ []) (uses_in (texts (drop (place + (1 + taken)) words)))
    ∙ ap (λ (ws : List (Bor Text)). used ++ one ∷ uses_in (texts ws)) left
    ∙ ap (λ (us : List HostUse). used ++ us) (sym first)
    ∙ ap (λ (ws : List (Bor Text)). used ++ uses_in (texts ws)) (sym cut) ∙ before

pub loop-place-preserved : goal.loop-place-preserved
loop-place-preserved c =
    let words = c.args.words.now in
    let place = c.loop-place.place in
    let rest : take (length words - (place + 1)) (drop (place + 1) words) ≡ drop (place + 1) words =
    take_all (length words - (place + 1)) (drop (place + 1) words) (omega (arith, length-drop (place + 1) words)) in
    record {
      within = omega (arith, c.first_use-one.ensures.taken, ap length rest, length-drop (place + 1) words);
      used = ap (λ (us : List HostUse). us ++ uses_in (texts (drop (place + (1 + c.first_use-one.result.1)) words)))
          c.in_ok-push.ensures.items
          ∙ use-more words place c.first_use-one.result.1 (record { ref_ptr = (0, 0); now = [] }) c.first_use-one.result.0
          c.loop-place.uses.items (take (length words - (place + 1)) (drop (place + 1) words)) (omega arith) rest
          c.first_use-one.ensures.first c.loop-place.invariant.used;
    }

pub loop-place-smaller : goal.loop-place-smaller
loop-place-smaller c = omega (arith, c.loop-place-test.true)

pub returns : goal.returns
returns c =
    let words = c.args.words.now in
    let used = c.loop-place.uses.items in
    sym (append-nil used)
    ∙ ap (λ (ws : List (Bor Text)). used ++ uses_in (texts ws))
    (sym (drop_all c.loop-place.place words (omega (arith, c.loop-place-test.false))))
    ∙ c.loop-place.invariant.used
