-- The work of checking a stack, directory by directory.
use mathlib.Core.List.{is_set}
use Rattle.std.proofs.Math.Bool.{Bool-set}
use native.Mathlib.Nat.{ℕ_set}
use Rattle.std.specs.Coded.{Coded-set, coded_option, coded_list, coded_ℕ}
use Rattle.ovl_check.specs.contracts.findings.Code as code_type
use Rattle.std.specs.Prelude.{ℕ, ◌+◌, Bool, false, not, ◌&&◌, ◌||◌, length, min, nat_lt, Option, Some, None, List, [], ◌++◌, if◌then◌else◌, map, filter, slice_get, unwrap_or}
use Rattle.std.specs.List.{flat_map}
use Rattle.ovl_names.specs.Paths.{PathNames, child_path}
use Rattle.ovl_layer.specs.Layers.{Entries, Entry, entry_at, is_directory_at, names_below}
use Rattle.ovl_lookup.specs.Walk.{mark_at, walk}
use Rattle.ovl_lookup.specs.Stacks.{StackView, all_layers, from_layer}
use Rattle.ovl_lookup.specs.Sound.{is_moved}
use Rattle.ovl_board.specs.declared.pieces.Piece.{Piece}
use Rattle.ovl_board.specs.Pieces.{piece_in}
use Rattle.ovl_check.specs.declared.findings.Code.{Code}
use Rattle.ovl_check.specs.declared.findings.Finding.{Finding}
use Rattle.ovl_check.specs.declared.work.CheckOut.{CheckOut}
use Rattle.ovl_check.specs.Codes.{all_codes, is_double, is_blob_fault}
use Rattle.ovl_blobs.specs.declared.contents.BlobInfo.{BlobInfo}
use Rattle.ovl_check.specs.Contents.{holds_of_contents}
use Rattle.ovl_check.specs.Findings.{finding, any_code}

-- what is checked: a stack and the contents of its blobs
pub record CheckView : Type 0 where
  pub stack : StackView
  pub contents : List BlobInfo

-- what is seen of the output of a directory: its findings, its next path where its walk is open,
-- and whether it is moved
pub record CheckSeen : Type 0 where
  pub findings : List Finding
  pub place : Option PathNames
  pub moved : Bool

abbrev pub check_seen : CheckOut → CheckSeen
check_seen out = record { findings = out.findings.items; place = out.place; moved = out.moved }

-- layer `i` of a stack, which may be data-only, and the layers below it
abbrev pub layer_at : StackView → ℕ → Entries
layer_at stack i = unwrap_or (slice_get (all_layers stack) i) []

-- below a data-only layer there is none
abbrev pub first_below : StackView → ℕ → ℕ
first_below stack i = min (i + 1) (length stack.layers)

abbrev pub layers_below : StackView → ℕ → StackView
layers_below stack i = from_layer (first_below stack i) stack

-- a directory of layer `i` is a piece of space `i`; its kids are the directories directly in it
abbrev pub check_kids : CheckView → Piece → List Piece
check_kids work piece =
    let layer = layer_at work.stack piece.space in
    map (piece_in piece)
    (filter (λ name. is_directory_at layer (child_path piece.dir name))
    (names_below layer piece.dir))

-- layer `i` isn't data-only, and the codes that are sought in it
abbrev pub is_ordinary : StackView → ℕ → Bool
is_ordinary stack i = nat_lt i (length stack.layers)

abbrev pub sought_in : StackView → ℕ → Code → Bool
sought_in stack i = if is_ordinary stack i then any_code else is_blob_fault

-- a code other than redirect-double is sought in layer `i`, and its condition holds at an entry of
-- that
abbrev pub holds_alone : CheckView → ℕ → Entry → Code → Bool
holds_alone work i entry code =
    not (is_double code)
    && (sought_in work.stack i code
    && holds_of_contents work.contents (layer_at work.stack i)
    (layers_below work.stack i) entry code)

-- the findings at an entry, redirect-double apart
abbrev pub findings_alone : CheckView → ℕ → Entry → List Finding
findings_alone work i entry = map (finding i entry.0) (filter (holds_alone work i entry) all_codes)

-- the same at a path, where there is an entry
abbrev pub findings_at_path : CheckView → ℕ → PathNames → List Finding
findings_at_path work i path =
    elim (entry_at (layer_at work.stack i) path)
    [ Some inode ↦ findings_alone work i (path, inode) | None ↦ [] ]

-- those of a directory: at itself, and at each name in it that is no directory
abbrev pub directory_findings : CheckView → ℕ → PathNames → List Finding
directory_findings work i dir =
    let layer = layer_at work.stack i in
    findings_at_path work i dir
    ++ flat_map (λ name. findings_at_path work i (child_path dir name))
    (filter (λ name. not (is_directory_at layer (child_path dir name))) (names_below layer dir))

-- the output of a directory; nothing is put out elsewhere
abbrev pub no_seen : CheckSeen
no_seen = record { findings = []; place = None; moved = false }

abbrev pub check_out : CheckView → Piece → CheckSeen
check_out work piece =
    let layer = layer_at work.stack piece.space in
    if is_directory_at layer piece.dir
    then record {
      findings = directory_findings work piece.space piece.dir;
      place =
          (if not (is_ordinary work.stack piece.space) || (walk layer piece.dir).closed then None
          else Some (walk layer piece.dir).next);
      moved = is_ordinary work.stack piece.space && is_moved (mark_at layer piece.dir);
    }
    else no_seen

-- what is seen is plain data
pub seen_set : IsSet CheckSeen
seen_set =
    hlevel (
      is_set,
      Coded-set (coded_option (coded_list (coded_list coded_ℕ))),
      ℕ_set,
      Bool-set,
      Coded-set (code_type.the_row).coded,
    )
