-- Texts of paths, and where those of the paths on the way there end.
use Rattle.std.proofs.Common.{◌≡◌, ℕ, suc, ◌+◌, ◌≤◌, ◌<◌, ◌∙◌, ◌⊎◌, inl, inr, Some, List, [], ◌∷◌, ◌++◌, true, refl, sym, ap, length, take, drop, append-nil, length-append, length-take, length-take-le, arith, le-leb}
use Rattle.std.specs.Prelude.{slice_get}
use Rattle.std.proofs.Math.Seq.{take-append_seam, take-length}
use Rattle.std.proofs.lemmas.Bool.{cases_lt}
use Rattle.std.proofs.lemmas.List.{take-append-drop}
use Rattle.std.proofs.lemmas.Grind.{flat_map-append}
use Rattle.ovl_names.specs.Names.{PathName, slash}
use Rattle.ovl_names.specs.Paths.{PathNames, child_path, path_text, depth_limit, text_limit}
use Rattle.ovl_layer.specs.Layers.{is_within_limits}
use Rattle.ovl_layer.specs.TextPaths.{slashed, AreEnds}
use Rattle.ovl_layer.proofs.SheetLemmas.{slice_get-front, slice_get-seam, length-child}
use Rattle.ovl_layer.proofs.SheetBuilderLemmas.{take-child, slice_get-take}

-- the text of a directory's entry
pub slashed-child : (path : PathNames) (name : List ℕ) → slashed (child_path path name) ≡ slashed path ++ slash ∷ name
slashed-child path name = flat_map-append (λ (own : List ℕ). slash ∷ own) path (name ∷ []) ∙ ap (λ (own : List ℕ). slashed path ++ slash ∷ own) (append-nil name)

pub path_text-child : (path : PathNames) (name : List ℕ) → path_text (child_path path name) ≡ slashed (child_path path name)
path_text-child [] name = refl
path_text-child (first ∷ path) name = refl

-- the text of a path begins with those of the paths on the way there
pub slashed-front : (path : PathNames) (depth : ℕ) → take (length (slashed (take depth path))) (slashed path) ≡ slashed (take depth path)
slashed-front path depth =
    let front : PathNames = take depth path in
    let parts : slashed path ≡ slashed front ++ slashed (drop depth path) =
    ap slashed (sym (take-append-drop depth path)) ∙ flat_map-append (λ (own : List ℕ). slash ∷ own) front (drop depth path) in
    ap (take (length (slashed front))) parts ∙ take-append_seam (slashed front) (slashed (drop depth path))

-- where they end in the text of an entry of a directory on the way to the last path
module _ (path : PathNames) (ends : List ℕ) (are : AreEnds path ends) (depth len : ℕ) (within : depth ≤ length path) (name : PathName) (long : len ≡ length (slashed (child_path (take depth path) name))) where
  ends-count : length (take (depth + 1) ends) ≡ suc depth
  ends-count = length-take-le (depth + 1) ends (omega (arith, within, are.count)) ∙ omega arith

  child-count : length (child_path (take depth path) name) ≡ suc depth
  child-count = length-child (take depth path) name ∙ ap suc (length-take-le depth path within)

  pub ends-on : AreEnds (child_path (take depth path) name) (take (depth + 1) ends ++ len ∷ [])
  ends-on = record {
    count = omega (arith, length-append (take (depth + 1) ends) (len ∷ []), ends-count, child-count);
    places = λ d inside. by d inside (cases_lt d (suc depth));
  }
    where
      child : PathNames
      child = child_path (take depth path) name

      by : (d : ℕ) → d ≤ length child → (d < suc depth) ⊎ (suc depth ≤ d) → slice_get (take (depth + 1) ends ++ len ∷ []) d ≡ Some (length (slashed (take d child)))
      by d inside (inl before) =
          slice_get-front (take (depth + 1) ends) (len ∷ []) d (omega (arith, before, ends-count))
          ∙ (slice_get-take ends (depth + 1) d (omega (arith, before))
          ∙ (are.places d (omega (arith, before, within))
          ∙ ap (λ (own : PathNames). Some (length (slashed own))) (sym (take-child path depth d name (omega (arith, before)) within))))
      by d inside (inr after) =
          let end : d ≡ length (take (depth + 1) ends) = omega (arith, after, inside, child-count, ends-count) in
          let whole : d ≡ length child = omega (arith, after, inside, child-count) in
          ap (slice_get (take (depth + 1) ends ++ len ∷ [])) end
          ∙ (slice_get-seam (take (depth + 1) ends) len []
          ∙ (ap Some long ∙ sym (ap (λ n. Some (length (slashed (take n child)))) whole ∙ ap (λ (own : PathNames). Some (length (slashed own))) (take-length child))))

-- a path of this many names and bytes keeps the limits
pub child_limits : (last : PathNames) (depth : ℕ) (name text : List ℕ) → text ≡ slashed (child_path (take depth last) name) → depth < depth_limit → length text ≤ text_limit → is_within_limits (child_path (take depth last) name) ≡ true
child_limits last depth name text is shallow short =
    let path : PathNames = child_path (take depth last) name in
    let names : length path ≤ depth_limit = omega (arith, shallow, length-append (take depth last) (name ∷ []), length-take depth last) in
    let same : length (path_text path) ≡ length text = ap length (path_text-child (take depth last) name ∙ sym is) in
    let bytes : length (path_text path) ≤ text_limit = omega (arith, short, same) in
    rw (le-leb (length path) depth_limit names, le-leb (length (path_text path)) text_limit bytes) refl
