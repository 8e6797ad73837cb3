use Rattle.std.proofs.Common.{rules, ◌≡◌, ◌++◌, ◌∷◌, [], List, sym, subst}
use Rattle.std.specs.List.Sorted.{IsPermutation}
use Rattle.ovl_check.specs.declared.findings.Finding.{Finding}
use Rattle.ovl_check.proofs.Moves.{moved-last}
use Rattle.ovl_check.proofs.finish.push_before.Goals as goal

pub loop-finding-preserved : goal.loop-finding-preserved
loop-finding-preserved c =
    let findings : List Finding = c.loop-finding.findings.items in
    let all : List Finding = c.args.findings.now.items ++ c.args.waiting.now.items in
    let last : c.loop-finding.waiting.items ≡ c.pop.new.self.items ++ c.in-Some.finding ∷ [] = search rules in
    let more : c.push-in-Some.new.self.items ≡ findings ++ c.in-Some.finding ∷ [] = search rules in
    subst (λ (l : List Finding). IsPermutation all (l ++ c.pop.new.self.items)) (sym more) (moved-last all findings c.loop-finding.waiting.items c.pop.new.self.items c.in-Some.finding c.loop-finding.invariant last)
