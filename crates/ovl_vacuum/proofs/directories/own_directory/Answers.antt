use Rattle.std.proofs.Common.{◌≡◌, Option, IfOk, IfSome, MatchOption, false, length-append, subst, arith}
use Rattle.std.proofs.lemmas.Result.{IfOk-weaker}
use Rattle.ovl_layer.specs.Layers.{Entries, is_directory_at}
use Rattle.ovl_lookup.specs.Passes.{IsOwnDirectory}
use Rattle.ovl_lookup.specs.Words.{top_layer}
use Rattle.ovl_lookup.proofs.LawsOfLooks.{top-layer}
use Rattle.ovl_vacuum.proofs.VisitLemmas.{top-first, own-found}
use Rattle.ovl_vacuum.proofs.directories.own_directory.Goals as goal

pub own_directory-requires : goal.own_directory-requires
own_directory-requires c = omega (arith, c.top-top.ensures.some, length-append c.args.stack.now.layers c.args.stack.now.data_only)

pub returns : goal.returns
returns c =
    IfOk-weaker c.own_directory.result _ _ (λ found is. own-found (top_layer c.args.stack.now) (top-layer c.args.stack.now c.top-top.ensures.some c.top-top.ensures.each) c.args.path.now found is)
    (subst (λ (o : Option Entries). IfSome o (λ layer. IfOk c.own_directory.result (λ found. MatchOption found (is_directory_at layer c.args.path.now ≡ false) (IsOwnDirectory layer c.args.path.now))))
    (top-first c.args.stack.now.layers c.args.stack.now.data_only c.top-top.ensures.some) c.own_directory.ensures)
