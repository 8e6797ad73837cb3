-- How much room a directory has for names, if a manifest is to hold their paths, and the kids that have it.
use Rattle.std.proofs.Common.{◌≡◌, ◌<◌, ◌≤◌, ◌+◌, ◌-◌, ℕ, Bool, true, false, cond, List, [], ◌∷◌, map, filter, refl, sym, ap, ◌∙◌, length, arith}
use Rattle.std.specs.Prelude.{nat_le, nat_lt, ◌&&◌}
use Rattle.std.proofs.lemmas.Bool.Decides.{nat_tests}
use Rattle.ovl_names.specs.Names.{PathName}
use Rattle.ovl_names.specs.Paths.{PathNames, child_path, path_text, depth_limit, text_limit}
use Rattle.ovl_inode.specs.Marks.{is_directory}
use Rattle.ovl_layer.specs.Layers.{is_within_limits}
use Rattle.ovl_layer.proofs.SheetLemmas.{length-child}
use Rattle.ovl_board.specs.declared.pieces.Piece.{Piece}
use Rattle.ovl_board.specs.Pieces.{piece_in}
use Rattle.ovl_rewrite.specs.Directories.{NamedInode, directories_among, is_kept}

-- none where it lies as deep as a path may
pub too-deep : (directory : PathNames) (name : PathName) → depth_limit ≤ length directory → is_within_limits (child_path directory name) ≡ nat_lt (length name) 0
too-deep directory name deep =
    let path : PathNames = child_path directory name in
    let more : depth_limit < length path = omega (arith, length-child directory name, deep) in
    let past : nat_le (length path) depth_limit ≡ false = grind (arith, nat_tests) in
    let none : nat_lt (length name) 0 ≡ false = grind (arith, nat_tests) in
    ap (λ b. b && nat_le (length (path_text path)) text_limit) past ∙ sym none

-- else what the directory's own bytes leave
pub room-left : (bytes name limit : ℕ) → nat_le (bytes + 1 + name) limit ≡ nat_lt name (limit - bytes)
room-left bytes name limit = by (nat_le (bytes + 1 + name) limit) refl (nat_lt name (limit - bytes)) refl
  where
    by : (b : Bool) → nat_le (bytes + 1 + name) limit ≡ b → (c : Bool) → nat_lt name (limit - bytes) ≡ c → b ≡ c
    by true e true f = refl
    by false e false f = refl
    by true e false f = absurd (grind (arith, nat_tests, e, f))
    by false e true f = absurd (grind (arith, nat_tests, e, f))

-- ---- the kids that are visited

-- the directories that a manifest can hold, by their entries
pub kept-among : (piece : Piece) (entries : List NamedInode) → filter is_kept (directories_among piece entries) ≡ map (piece_in piece) (map (λ entry. entry.0) (filter (λ entry. is_directory entry.1 && is_kept (piece_in piece entry.0)) entries))
kept-among piece [] = refl
kept-among piece (entry ∷ entries) = by (is_directory entry.1) (is_kept (piece_in piece entry.0)) refl (kept-among piece entries)
  where
    others : List NamedInode
    others = filter (λ other. is_directory other.1 && is_kept (piece_in piece other.0)) entries

    by : (b kept : Bool) → is_kept (piece_in piece entry.0) ≡ kept → filter is_kept (directories_among piece entries) ≡ map (piece_in piece) (map (λ other. other.0) others)
        → filter is_kept (map (λ other. piece_in piece other.0) (cond b (entry ∷ filter (λ other. is_directory other.1) entries) (filter (λ other. is_directory other.1) entries))) ≡ map (piece_in piece) (map (λ other. other.0) (cond (b && kept) (entry ∷ others) others))
    by false kept e later = later
    by true true e later = ap (λ k. cond k (piece_in piece entry.0 ∷ filter is_kept (directories_among piece entries)) (filter is_kept (directories_among piece entries))) e ∙ ap (λ (kids : List Piece). piece_in piece entry.0 ∷ kids) later
    by true false e later = ap (λ k. cond k (piece_in piece entry.0 ∷ filter is_kept (directories_among piece entries)) (filter is_kept (directories_among piece entries))) e ∙ later
