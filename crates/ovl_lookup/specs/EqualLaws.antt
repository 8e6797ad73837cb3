-- The test of equality decides it, so that it is an equivalence.
use Rattle.std.proofs.Common.{◌≡◌, true, false, refl, sym, ap, ◌∙◌}
use Rattle.std.specs.Cmp.{IsEquivalence, decided}
use Rattle.ovl_inode.specs.declared.inodes.Inode.{Inode}
use Rattle.ovl_inode.specs.EqualLaws.{inode_eq-same, inode_eq-itself}
use Rattle.ovl_lookup.specs.declared.looks.Look.{Look}
use Rattle.ovl_lookup.specs.declared.looks.Look.TheVariants.{Nothing, Shown, Broken}
use Rattle.ovl_lookup.specs.Equal.{look_eq}

pub look_eq-same : (one other : Look) → look_eq one other ≡ true → one ≡ other
look_eq-same Nothing Nothing e = refl
look_eq-same (Shown one) (Shown other) e = ap (λ (i : Inode). Shown i) (inode_eq-same one other e)
look_eq-same (Broken one) (Broken other) e =
    ap (λ (i : Inode). Broken i) (inode_eq-same one other e)
look_eq-same _ _ e = let bad : false ≡ true = e in cc

look_eq-itself : (look : Look) → look_eq look look ≡ true
look_eq-itself Nothing = refl
look_eq-itself (Shown inode) = inode_eq-itself inode
look_eq-itself (Broken inode) = inode_eq-itself inode

pub look_eq_equiv : IsEquivalence look_eq
look_eq_equiv =
    decided look_eq
    (λ one other. (look_eq-same one other, λ e. ap (look_eq one) (sym e) ∙ look_eq-itself one))
