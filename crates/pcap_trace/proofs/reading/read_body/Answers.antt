use Rattle.std.proofs.Common.{◌≡◌, ℕ, List, eqb, ◌+◌, ◌-◌, ◌≤◌, length, take, drop, refl, sym, ap, inl, inr, ◌∙◌, arith}
use Rattle.std.proofs.lemmas.List.{length-drop, length-append}
use Rattle.std.proofs.lemmas.Result.{err_from_is_err_and}
use Rattle.std.specs.Io.KnownBytes.{prepend_known}
use Rattle.pcap_trace.specs.Format.{captured_length, original_length}
use Rattle.pcap_trace.proofs.Going.{GoesOnKnown-read, GoesOnKnown-kept, GoesOnKnown-skipped, word-read, ends_short, ends_cut}
use Rattle.pcap_trace.proofs.Going.{ends_oversized}
use Rattle.pcap_trace.proofs.Answering.{silent_body}
use Rattle.pcap_trace.proofs.Uses.{uses_joined}
use Rattle.pcap_trace.proofs.reading.read_body.Goals as goal
use Rattle.pcap_trace.proofs.reading.read_body.Goals.{then-lengths, else-lengths+in_ok-push, in_default}
use Rattle.pcap_trace.proofs.reading.read_body.Goals.{in-Some+else-lengths-gt-MOST_CAPTURED+in_ok-fill-2+then-held-whole}

pub returns-then-lengths-gt-MOST_CAPTURED-clause-fault : goal.returns-then-lengths-gt-MOST_CAPTURED-clause-fault
returns-then-lengths-gt-MOST_CAPTURED-clause-fault g c =
    let number = g.T.ByteOrder.number_of in
    let a = prepend_known c.args.block.now (g.S.Source.left c.args.source.now) in
    let left = g.S.Source.left c.fill.new.source in
    let held = c.fill.new.self in
    let so_far = GoesOnKnown-read number a (g.S.Source.left c.packets.source) left c.packets.block held c.packets.frames c.packets.skipped
    c.in_ok-fill.ensures.received c.packets.invariant.so_far in
    let told : c.in-Some.lengths.captured ≡ captured_length number held = c.in-Some.ensures.captured
    ∙ ap (captured_length number) c.held.ensures in
    ends_oversized number g.met.T.ByteOrder.reads_first a left held c.packets.frames c.packets.skipped c.in-Some.lengths.captured told
    (omega (arith, c.in-Some.ensures.whole, ap length c.held.ensures)) (omega arith) so_far

pub packets-preserved : goal.packets-preserved
packets-preserved g c =
    let number = g.T.ByteOrder.number_of in
    let first = g.met.T.ByteOrder.reads_first in
    let a = prepend_known c.args.block.now (g.S.Source.left c.args.source.now) in
    let left = g.S.Source.left c.fill.new.source in
    let next = g.S.Source.left c.fill-in-packets.new.source in
    let held = c.fill.new.self in
    let all = c.fill-in-packets.new.self in
    let n = c.in-Some.lengths.captured in
    let long : 16 ≤ length held = omega (arith, c.in-Some.ensures.whole, ap length c.held.ensures) in
    let so_far = GoesOnKnown-read number a left next held all c.packets.frames c.packets.skipped c.in_ok-fill-2.ensures.received
    (GoesOnKnown-read number a (g.S.Source.left c.packets.source) left c.packets.block held c.packets.frames c.packets.skipped
    c.in_ok-fill.ensures.received c.packets.invariant.so_far) in
    let told : n ≡ captured_length number all = c.in-Some.ensures.captured ∙ ap (captured_length number) c.held.ensures
    ∙ sym (word-read number first 8 held all left next (omega arith) c.in_ok-fill-2.ensures.received) in
    let origin : c.in-Some.lengths.original ≡ original_length number all = c.in-Some.ensures.original
    ∙ ap (original_length number) c.held.ensures
    ∙ sym (word-read number first 12 held all left next (omega arith) c.in_ok-fill-2.ensures.received) in
    let used = uses_joined (uses_joined c.packets.invariant.used c.in_ok-fill.ensures.used) c.in_ok-fill-2.ensures.used in
    let text : take (16 + n - 16) (drop 16 all) ≡ take n (drop 16 all) = ap (λ (k : ℕ). take k (drop 16 all)) (omega arith) in
    let counted : c.if-lengths.skipped ≤ c.packets.skipped + 1 = elim c.if-lengths.branch [
      | then-lengths w ↦ omega (arith, w.skipped-is)
      | else-lengths+in_ok-push w ↦ omega (arith, w.skipped-is)
    ] in
    record {
      countable = c.in_ok-fill-2.ensures.failures ∙ c.in_ok-fill.ensures.failures ∙ c.packets.invariant.countable;
      room = omega (
        arith,
        ap length c.skip.ensures.rest,
        length-drop
            (16 + n) all,
        ap length c.held-in-packets.ensures,
        c.in_ok-fill.ensures.limit,
        c.in_ok-fill-2.ensures.limit,
        c.packets.invariant.room,
      );
      used = used;
      so_far = elim c.if-lengths.branch [
        | then-lengths w ↦ rw (c.skip.ensures.rest, w.frames-is, w.skipped-is)
            (GoesOnKnown-skipped number first a next all c.packets.frames c.packets.skipped n told (omega arith)
            (omega (arith, ap length c.held-in-packets.ensures)) (omega (arith, w.if-lengths.true, origin)) so_far)
        | else-lengths+in_ok-push w ↦ rw (
          c.skip.ensures.rest,
          w.frames-is,
          w.in_ok-push.ensures.ok,
          ap
              (λ (xs : List ℕ). take (16 + n - 16) (drop 16 xs)) w.held-else-lengths.ensures,
          text,
          w.skipped-is,
        )
            (GoesOnKnown-kept number first a next all c.packets.frames c.packets.skipped n told (omega arith)
            (omega (arith, ap length c.held-in-packets.ensures)) (omega (arith, w.if-lengths.false, origin)) so_far)
      ];
    }

pub returns-clause-ok : goal.returns-clause-ok
returns-clause-ok g c =
    let number = g.T.ByteOrder.number_of in
    let first = g.met.T.ByteOrder.reads_first in
    let a = prepend_known c.args.block.now (g.S.Source.left c.args.source.now) in
    let left = g.S.Source.left c.fill.new.source in
    let held = c.fill.new.self in
    let so_far = GoesOnKnown-read number a (g.S.Source.left c.packets.source) left c.packets.block held c.packets.frames c.packets.skipped
    c.in_ok-fill.ensures.received c.packets.invariant.so_far in
    elim c.match-packet_lengths.branch [
      | in_default w ↦
          let is : c.is_empty.result ≡ eqb (length held) 0 = c.is_empty.ensures
          ∙ ap (λ (xs : List ℕ). eqb (length xs) 0) (c.held-2.ensures ∙ w.block-is) in
          ends_short number a left held c.packets.frames c.packets.skipped c.is_empty.result is
          (omega (arith, w.in_default.ensures.short, ap length c.held.ensures)) c.in_ok-fill.ensures.filled so_far
      | in-Some+else-lengths-gt-MOST_CAPTURED+in_ok-fill-2+then-held-whole w ↦
          let next = g.S.Source.left w.fill-in-packets.new.source in
          let all = w.fill-in-packets.new.self in
          let n = w.in-Some.lengths.captured in
          let is : c.is_empty.result ≡ eqb (length all) 0 = c.is_empty.ensures
          ∙ ap (λ (xs : List ℕ). eqb (length xs) 0) (c.held-2.ensures ∙ w.block-is) in
          let long : 16 ≤ length held = omega (arith, w.in-Some.ensures.whole, ap length c.held.ensures) in
          let told : n ≡ captured_length number all = w.in-Some.ensures.captured ∙ ap (captured_length number) c.held.ensures
          ∙ sym (word-read number first 8 held all left next (omega arith) w.in_ok-fill-2.ensures.received) in
          let now = GoesOnKnown-read number a left next held all c.packets.frames c.packets.skipped w.in_ok-fill-2.ensures.received so_far
          in
          ends_cut number a next all c.packets.frames c.packets.skipped c.is_empty.result n is told
          (omega (arith, ap length w.in_ok-fill-2.ensures.received.1, length-append held w.in_ok-fill-2.ensures.received.0))
          (omega arith) (omega (arith, w.if-held-whole.true, ap length w.held-in-packets.ensures)) w.in_ok-fill-2.ensures.filled now
    ]

-- what is left of the source

pub returns-in_err-fill-clause-used : goal.returns-in_err-fill-clause-used
returns-in_err-fill-clause-used g c = uses_joined c.packets.invariant.used c.in_err-fill.ensures.used

pub returns-then-lengths-gt-MOST_CAPTURED-clause-used : goal.returns-then-lengths-gt-MOST_CAPTURED-clause-used
returns-then-lengths-gt-MOST_CAPTURED-clause-used g c = uses_joined c.packets.invariant.used c.in_ok-fill.ensures.used

pub returns-in_err-fill-2-clause-used : goal.returns-in_err-fill-2-clause-used
returns-in_err-fill-2-clause-used g c =
    uses_joined (uses_joined c.packets.invariant.used c.in_ok-fill.ensures.used) c.in_err-fill-2.ensures.used

pub returns-in_err-push-clause-used : goal.returns-in_err-push-clause-used
returns-in_err-push-clause-used g c =
    uses_joined (uses_joined c.packets.invariant.used c.in_ok-fill.ensures.used) c.in_ok-fill-2.ensures.used

pub returns-clause-used : goal.returns-clause-used
returns-clause-used g c =
    let first = uses_joined c.packets.invariant.used c.in_ok-fill.ensures.used in
    elim c.match-packet_lengths.branch [
      | in_default w ↦ rw w.source-is first
      | in-Some+else-lengths-gt-MOST_CAPTURED+in_ok-fill-2+then-held-whole w ↦
          rw w.source-is (uses_joined first w.in_ok-fill-2.ensures.used)
    ]

-- errors, which depend on no byte

pub returns-in_err-fill-clause-fault : goal.returns-in_err-fill-clause-fault
returns-in_err-fill-clause-fault g c =
    let p = err_from_is_err_and c.from_residual.result c.from_residual.ensures.1 in
    rw p.1 (silent_body g.T.ByteOrder.number_of (prepend_known c.args.block.now (g.S.Source.left c.args.source.now)) p.0 (rw p.2 refl))

pub returns-in_err-fill-2-clause-fault : goal.returns-in_err-fill-2-clause-fault
returns-in_err-fill-2-clause-fault g c =
    let p = err_from_is_err_and c.from_residual-in_err-fill-2.result c.from_residual-in_err-fill-2.ensures.1 in
    rw p.1 (silent_body g.T.ByteOrder.number_of (prepend_known c.args.block.now (g.S.Source.left c.args.source.now)) p.0 (rw p.2 refl))

pub returns-in_err-push-clause-fault : goal.returns-in_err-push-clause-fault
returns-in_err-push-clause-fault g c =
    let p = err_from_is_err_and c.from_residual-in_err-push.result c.from_residual-in_err-push.ensures.1 in
    rw p.1 (silent_body g.T.ByteOrder.number_of (prepend_known c.args.block.now (g.S.Source.left c.args.source.now)) p.0 (rw p.2 refl))

-- the other results

pub returns-clause-failure : goal.returns-clause-failure
returns-clause-failure g c =
    elim c.match-packet_lengths.branch [
      | in_default w ↦ rw w.source-is (c.in_ok-fill.ensures.failures ∙ c.packets.invariant.countable)
      | in-Some+else-lengths-gt-MOST_CAPTURED+in_ok-fill-2+then-held-whole w ↦
          rw w.source-is (w.in_ok-fill-2.ensures.failures ∙ c.in_ok-fill.ensures.failures ∙ c.packets.invariant.countable)
    ]

pub returns-clause-end : goal.returns-clause-end
returns-clause-end g c =
    elim c.match-packet_lengths.branch [
      | in_default w ↦ rw w.source-is (elim c.in_ok-fill.ensures.filled [
        | inl long ↦ absurd (omega (arith, long, w.in_default.ensures.short, ap length c.held.ensures))
        | inr ends ↦ ends
      ])
      | in-Some+else-lengths-gt-MOST_CAPTURED+in_ok-fill-2+then-held-whole w ↦ rw w.source-is (elim w.in_ok-fill-2.ensures.filled [
        | inl long ↦ absurd (omega (arith, long, w.if-held-whole.true, ap length w.held-in-packets.ensures))
        | inr ends ↦ ends
      ])
    ]

pub packets-smaller : goal.packets-smaller
packets-smaller g c = omega (
  arith,
  ap length c.skip.ensures.rest,
  length-drop
      (16 + c.in-Some.lengths.captured) c.fill-in-packets.new.self,
  ap length c.held-in-packets.ensures,
  c.in_ok-fill.ensures.limit,
  c.in_ok-fill-2.ensures.limit,
)

pub overflow_add-skipped : goal.overflow_add-skipped
overflow_add-skipped g c = omega (
  arith,
  ap length c.held-in-packets.ensures,
  c.in_ok-fill.ensures.limit,
  c.in_ok-fill-2.ensures.limit,
  c.packets.invariant.room,
  c.requires.counted,
)
