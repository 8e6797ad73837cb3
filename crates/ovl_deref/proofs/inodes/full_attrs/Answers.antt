use Rattle.std.proofs.Common.{◌≡◌, ◌∙◌, ◌++◌, ◌∷◌, [], ℕ, List, false, refl, sym, ap, append_assoc}
use Rattle.std.specs.Prelude.{◌||◌}
use Rattle.ovl_names.specs.Names.{name_eq}
use Rattle.ovl_inode.specs.Attributes.{Attributes, redirect_name, metacopy_name}
use Rattle.ovl_deref.specs.Deref.{full_attributes}
use Rattle.ovl_deref.proofs.VisitLemmas.{full-put}
use Rattle.ovl_deref.proofs.inodes.full_attrs.Goals as goal

pub loop-name-preserved : goal.loop-name-preserved
loop-name-preserved c =
    let attr : List ℕ × List ℕ = (c.in-Some.name.now, c.in-Some.value.now) in
    let full : Attributes = c.loop-name.full in
    let rest : Attributes = c.next.new.self in
    let free : (name_eq attr.0 metacopy_name || name_eq attr.0 redirect_name) ≡ false = sym c.ties_to_data.ensures ∙ c.if-ties_to_data.false in
    let split : full_attributes (attr ∷ rest) ≡ attr ∷ full_attributes rest = rw free refl in
    let whole : full ++ attr ∷ full_attributes rest ≡ full_attributes c.args.attrs.now =
    ap (λ (t : Attributes). full ++ t) (sym split ∙ ap full_attributes (sym c.in-Some.ensures.steps)) ∙ c.loop-name.invariant in
    let put = c.in-Ok.ensures.0 ∙ full-put c.args.attrs.now full rest attr c.pairs-name-items.ensures.attributes whole in
    ap (λ (t : Attributes). t ++ full_attributes rest) put ∙ (append_assoc full (attr ∷ []) (full_attributes rest) ∙ whole)
