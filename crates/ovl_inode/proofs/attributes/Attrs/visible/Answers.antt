use Rattle.std.proofs.Common.{◌≡◌, ◌∙◌, true, ◌++◌, sym, ap, subst, append-nil}
use Rattle.ovl_inode.specs.Attributes.{Attributes, are_attributes, visible_attributes}
use Rattle.ovl_inode.proofs.AttributeLemmas.{are_attributes-visible}
use Rattle.ovl_inode.proofs.attributes.Attrs.visible.Goals as goal

pub of-requires : goal.of-requires
of-requires c =
    let left = ap (λ (attrs : Attributes). c.loop-name.shown ++ visible_attributes attrs) c.in-None.ensures.steps.0 in
    let all : c.loop-name.shown ≡ visible_attributes c.args.self.now = sym (append-nil c.loop-name.shown) ∙ (sym left ∙ c.loop-name.invariant) in
    subst (λ (attrs : Attributes). are_attributes attrs ≡ true) (sym all) (are_attributes-visible c.args.self.now c.pairs-name-items.ensures.attributes)
