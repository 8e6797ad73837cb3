use Rattle.std.proofs.Common.{◌≡◌, ◌-◌, ◌∙◌, rules, true, false, length, take, drop, sym, ap, subst, length-drop}
use Rattle.std.proofs.Math.Seq.{take-length}
use Rattle.std.proofs.lemmas.Fn.{always_returns_same}
use Rattle.std.specs.List.{starts_with}
use Rattle.std.specs.List.Sorted.{IsPartitionedBy, IsPartitionPoint}
use Rattle.ovl_names.specs.Names.{name_eq}
use Rattle.ovl_board.specs.Trees.{children}
use Rattle.ovl_board.proofs.SubtreeLemmas.{is_up_to, partitioned-up_to, partitioned-under, children-under}
use Rattle.ovl_board.proofs.trees.paths_under.Goals as goal

pub returns : goal.returns
returns c =
    let paths = c.args.paths.now in
    let dir = c.args.dir.now in
    let start = c.partition_point-start.result in
    let end = c.partition_point-end.result in
    let whole : take (length paths - start) (drop start paths) ≡ drop start paths = ap (λ n. take n (drop start paths)) (sym (length-drop start paths)) ∙ take-length (drop start paths) in
    let point = c.partition_point-start.ensures.partitioned (λ d. is_up_to dir d) (always_returns_same _ _ _ (λ a r f' k. let m = k.met in search rules)) (partitioned-up_to dir paths c.requires) in
    let stop = c.partition_point-end.ensures.partitioned (λ d. starts_with name_eq d dir) (always_returns_same _ _ _ (λ a r f' k. let m = k.met in search rules))
    (subst (IsPartitionedBy (λ d. starts_with name_eq d dir)) (sym whole) (partitioned-under dir paths c.requires start point)) in
    subst (λ l. children (take end l) dir ≡ children paths dir) (sym whole)
    (children-under dir paths c.requires start point end (subst (λ l. IsPartitionPoint (λ d. starts_with name_eq d dir ≡ true) (λ d. starts_with name_eq d dir ≡ false) l end) whole stop))
