use Rattle.std.proofs.Common.{◌≡◌, ◌++◌, ◌∷◌, [], ap, ◌∙◌, ℕ, List, inr, refl}
use Rattle.std.proofs.lemmas.Bool.{iff_false}
use Rattle.descriptors.specs.declared.ring.Ring.{Ring}
use Rattle.descriptors.specs.Ring.{address_of, next_of}
use Rattle.tx_engine.specs.Transmitter.{Queued, Transmitter}
use Rattle.tx_engine.specs.Fetching.{pads, fetched}
use Rattle.tx_engine.specs.ToSend.{to_send}
use Rattle.tx_engine.specs.Laws.{to_send-take, pushed-fetched}
use Rattle.tx_engine.proofs.taking.take.Goals as goal

pub returns-clause-to_send : goal.returns-clause-to_send
returns-clause-to_send c =
    let memory = c.args.memory.now in
    let ring = c.args.ring.now in
    let buffer = c.args.engine.now.buffer in
    let pad = pads c.args.control.0 in
    let named = c.in-Some.named in
    let fetchable = c.in-Some.ensures.fetchable.0 refl in
    let apart : ¬ (ring.head ≡ ring.tail) =
    λ same. iff_false c.has_nothing_to_take.ensures.nothing c.if-has_nothing_to_take.false (inr (inr (inr same))) in
    let made = pushed-fetched pad memory named.bytes.now
    (address_of ring ring.head) named.descriptor c.least_of.result named.rs c.in-Some.ensures.bytes c.in-Some.ensures.descriptor
    c.in-Some.ensures.rs c.least_of.ensures in
    let grown : c.push.new.self.buffer ≡ buffer ++ fetched pad memory (address_of ring ring.head) ∷ [] =
    ap (λ (t : Transmitter). t.buffer) c.push.ensures ∙ ap (λ (last : Queued). buffer ++ last ∷ []) made in
    ap (λ (head : ℕ). let moved : Ring = record ring { head = head } in to_send memory moved pad c.push.new.self.buffer) c.next-ring.ensures
    ∙ ap (λ (queue : List Queued). to_send memory (record ring { head = next_of ring ring.head }) pad queue) grown
    ∙ to_send-take memory ring pad buffer fetchable.sound apart
