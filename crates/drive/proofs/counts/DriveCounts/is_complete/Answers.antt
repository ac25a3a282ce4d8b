use Rattle.std.proofs.Common.{◌≡◌, ◌≤◌, ℕ, Option, Some, None, arith, leb}
use Rattle.std.specs.Prelude.{◌↔◌, IfSome, IsTrue}
use Rattle.std.specs.Option.{unwrap_or}
use Rattle.std.proofs.lemmas.Bool.Decides.{nat_tests}
use Rattle.drive.proofs.counts.DriveCounts.is_complete.Goals as goal

reaches : (limit received : ℕ) (expect : Option ℕ) → limit ≡ unwrap_or expect 0
    → IsTrue (leb limit received) ↔ IfSome expect (λ n. n ≤ received)
reaches limit received None is = (λ _. tt, λ _. grind (arith, nat_tests))
reaches limit received (Some n) is = grind (arith, nat_tests)

pub returns-then-saturating_add-frames : goal.returns-then-saturating_add-frames
returns-then-saturating_add-frames c =
    let h = reaches c.unwrap_or.result c.args.self.now.received c.args.expect c.unwrap_or.ensures in
    (λ reached. (omega arith, h.0 reached), λ all. h.1 all.1)
