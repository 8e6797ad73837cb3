-- What soundness says of the files that a stack shows first: a metacopy file has its data, and none is malformed.
use Rattle.std.proofs.Common.{◌≡◌, Bool, true, false, cond, Option, Some, None, List, [], ◌∷◌, refl, sym, ap, ◌∙◌, inl, inr, ◌⊎◌}
use Rattle.std.specs.Prelude.{◌&&◌, ◌||◌, is_none}
use Rattle.std.specs.List.{cons_option}
use Rattle.ovl_names.specs.Paths.{PathNames}
use Rattle.ovl_inode.specs.declared.inodes.Inode.{Inode}
use Rattle.ovl_inode.specs.declared.marks.Mark.{Mark}
use Rattle.ovl_inode.specs.declared.marks.Mark.TheVariants.{DirBad, Meta, MetaBad}
use Rattle.ovl_inode.specs.Marks.{mark_of, is_directory, is_regular, is_whiteout, is_metacopy, is_metacopy_mark, has_metacopy}
use Rattle.ovl_layer.specs.Layers.{Entries, IsLayer, entry_at}
use Rattle.ovl_lookup.specs.Walk.{walk}
use Rattle.ovl_lookup.specs.Stacks.{StackView}
use Rattle.ovl_lookup.specs.Trace.{things_found}
use Rattle.ovl_lookup.specs.Merged.{data_of}
use Rattle.ovl_lookup.specs.Sound.{is_meta, is_malformed, IsSoundStack}
use Rattle.ovl_lookup.specs.Words.{over}
use Rattle.ovl_lookup.proofs.LawsOfFound.{things_found-step}
use Rattle.ovl_lookup.proofs.LawsOfInodes.{metacopy-file, bare-mark}
use Rattle.ovl_lookup.proofs.LawsOfLooks.{Faultless, sound-first, sound-rest, data-there}
use Rattle.ovl_lookup.proofs.LawsOfWalks.{walk-finds, mark-file}
use Rattle.ovl_merge.specs.Places.{Merge, whole, lower_path, first_hit}
use Rattle.ovl_merge.proofs.Firsts.{hit-from}

-- the data that a file has among the things found from it on, if it is a metacopy file; no other has `metacopy`
abbrev pub HasData : List Entries → Inode → List Inode → Type 0
HasData data_only inode found = (is_metacopy inode ≡ true → (contents : Inode) × (data_of data_only found ≡ Some contents)) × (is_metacopy inode ≡ false → (is_regular inode && has_metacopy inode) ≡ false)

some-data : (o : Option Inode) → is_none o ≡ false → (contents : Inode) × (o ≡ Some contents)
some-data None e = let bad : true ≡ false = e in cc
some-data (Some contents) e = (contents, refl)

malformed-mark : (mark : Mark) → (is_meta (Some mark) || is_malformed (Some mark)) ≡ true → is_malformed (Some mark) ≡ false → is_metacopy_mark mark ≡ true
malformed-mark (Meta redirect) some whole = refl
malformed-mark DirBad some whole = let bad : true ≡ false = whole in cc
malformed-mark MetaBad some whole = let bad : true ≡ false = whole in cc
malformed-mark _ some whole = let bad : false ≡ true = some in cc

-- a file that one layer's walk finds
sound-found : (layer : Entries) (below : StackView) (path : PathNames) (inode : Inode) → IsLayer layer → IsSoundStack (over layer below)
    → (walk layer path).found ≡ Some inode → is_directory inode ≡ false → HasData below.data_only inode (things_found (layer ∷ below.layers) path)
sound-found layer below path inode is sound found file = (has_data, no_malformed)
  where
    there : (entry_at layer path ≡ Some inode) × (is_whiteout inode ≡ false)
    there = walk-finds layer path inode is found

    good : Faultless layer below path inode
    good = sound-first layer below sound path inode there.0

    has_data : is_metacopy inode ≡ true → (contents : Inode) × (data_of below.data_only (things_found (layer ∷ below.layers) path) ≡ Some contents)
    has_data meta =
        let contents = some-data (data_of below.data_only (inode ∷ cond (walk layer path).closed [] (things_found below.layers (walk layer path).next))) (data-there layer below path inode is good there.0 there.1 (metacopy-file inode meta).1) in
        (contents.0, ap (data_of below.data_only) (things_found-step layer below.layers path ∙ ap (λ (o : Option Inode). cons_option o (cond (walk layer path).closed [] (things_found below.layers (walk layer path).next))) found) ∙ contents.1)

    no_malformed : is_metacopy inode ≡ false → (is_regular inode && has_metacopy inode) ≡ false
    no_malformed other = by (is_regular inode && has_metacopy inode) refl
      where
        by : (b : Bool) → (is_regular inode && has_metacopy inode) ≡ b → b ≡ false
        by false e = refl
        by true e =
            let whole : is_malformed (Some (mark_of inode)) ≡ false = ap is_malformed (sym (mark-file layer path inode is there.0 file)) ∙ good.formed in
            let bad : true ≡ false = sym (malformed-mark (mark_of inode) (bare-mark inode there.1 e) whole) ∙ other in cc

pub sound-hit : (m : Merge) → IsLayer m.upper → IsLayer m.lower → IsSoundStack (whole m) → (path : PathNames) (inode : Inode) → first_hit m path ≡ Some inode → is_directory inode ≡ false → HasData m.rest.data_only inode (things_found (whole m).layers path)
sound-hit m upper lower sound path inode hit file = by (hit-from m path inode upper lower hit)
  where
    by : ((walk m.upper path).found ≡ Some inode) ⊎ (((walk m.upper path).found ≡ None) × ((walk m.upper path).closed ≡ false) × ((walk m.lower (lower_path m path)).found ≡ Some inode)) → HasData m.rest.data_only inode (things_found (whole m).layers path)
    by (inl found) = sound-found m.upper (over m.lower m.rest) path inode upper sound found file
    by (inr (nothing, opened, found)) =
        let there = sound-found m.lower m.rest (lower_path m path) inode lower (sound-rest m.upper (over m.lower m.rest) sound) found file in
        let same : things_found (whole m).layers path ≡ things_found (m.lower ∷ m.rest.layers) (lower_path m path) =
        things_found-step m.upper (m.lower ∷ m.rest.layers) path ∙ (λ j. cons_option (nothing j) (cond (opened j) [] (things_found (m.lower ∷ m.rest.layers) (lower_path m path)))) in
        ((λ meta. let contents = there.0 meta in (contents.0, ap (data_of m.rest.data_only) same ∙ contents.1)), there.1)
