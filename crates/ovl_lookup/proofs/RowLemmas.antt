-- The path of a row, by its name and its directory's row.
use Rattle.std.proofs.Common.{◌≡◌, ℕ, ◌+◌, ◌<◌, Option, Some, None, [], length, ◌⊎◌, inl, inr, refl, sym, ap, ◌∙◌}
use Rattle.std.specs.Prelude.{unwrap_or, slice_get, IsSomeAnd}
use Rattle.std.proofs.lemmas.List.{length_push}
use Rattle.std.proofs.lemmas.Option.{slice_get_within}
use Rattle.ovl_names.specs.Names.{PathName}
use Rattle.ovl_names.specs.Paths.{PathNames, child_path, parent_path}
use Rattle.ovl_layer.specs.declared.sheets.SheetRow.{SheetRow}
use Rattle.ovl_layer.specs.Layers.{Entry, Entries}
use Rattle.ovl_layer.specs.Sheets.{last_name, path_of, path_at, IsRowOf}
use Rattle.ovl_layer.proofs.SheetLemmas.{last_name-child}
use Rattle.ovl_lookup.proofs.LawsOfPaths.{last-name, parent_path-child}

some-name : (found : Option Entry) (name : Option PathName) → IsSomeAnd found (λ entry. name ≡ last_name entry.0) → name ≡ last_name (path_of found)
some-name None name is = absurd is
some-name (Some entry) name is = is

some-path : (found : Option Entry) (path : PathNames) → IsSomeAnd found (λ entry. entry.0 ≡ path) → path_of found ≡ path
some-path None path is = absurd is
some-path (Some entry) path is = is

module _ (layer : Entries) (number : ℕ) (row : SheetRow) (is : IsRowOf layer number row) where
  name-at : row.name ≡ last_name (path_at layer number)
  name-at = some-name (slice_get layer number) row.name is.name

  parent-at : path_at layer row.parent ≡ parent_path (path_at layer number)
  parent-at = some-path (slice_get layer row.parent) (parent_path (path_at layer number)) is.parent

  -- a row without a name is the root's
  pub row-root : row.name ≡ None → path_at layer number ≡ []
  row-root none = by (last-name (path_at layer number))
    where
      by : (path_at layer number ≡ []) ⊎ ((directory : PathNames) × (name : PathName) × (path_at layer number ≡ child_path directory name)) → path_at layer number ≡ []
      by (inl root) = root
      by (inr (directory, name, whole)) = let bad : None ≡ Some name = sym none ∙ (name-at ∙ (ap last_name whole ∙ last_name-child directory name)) in cc

  -- a row with a name lies in its parent's directory
  pub row-child : (name : PathName) → row.name ≡ Some name → child_path (path_at layer row.parent) name ≡ path_at layer number
  row-child name named = by (last-name (path_at layer number))
    where
      by : (path_at layer number ≡ []) ⊎ ((directory : PathNames) × (own : PathName) × (path_at layer number ≡ child_path directory own)) → child_path (path_at layer row.parent) name ≡ path_at layer number
      by (inl root) = let bad : None ≡ Some name = sym (ap last_name root) ∙ (sym name-at ∙ named) in cc
      by (inr (directory, own, whole)) =
          let same : Some name ≡ Some own = sym named ∙ (name-at ∙ (ap last_name whole ∙ last_name-child directory own)) in
          let above : path_at layer row.parent ≡ directory = parent-at ∙ (ap parent_path whole ∙ parent_path-child directory own) in
          (λ j. child_path (above j) (unwrap_or (same j) name)) ∙ sym whole

  pub row-deeper : (name : PathName) → row.name ≡ Some name → length (path_at layer number) ≡ length (path_at layer row.parent) + 1
  row-deeper name named = ap length (sym (row-child name named)) ∙ length_push (path_at layer row.parent) name

  -- the parent's row is one of the layer
  pub row-inside : row.parent < length layer
  row-inside = by (slice_get layer row.parent) refl is.parent
    where
      by : (found : Option Entry) → slice_get layer row.parent ≡ found → IsSomeAnd found (λ entry. entry.0 ≡ parent_path (path_at layer number)) → row.parent < length layer
      by None e is = absurd is
      by (Some entry) e is = (slice_get_within layer row.parent entry e)
