-- Where the paths of a merge lie in the rest of the stack: the upper layer goes into the lower one,
-- over the rest.
use Rattle.std.specs.Prelude.{ℕ, zero, suc, Bool, true, false, ◌&&◌, not, Option, Some, None, List, [], ◌∷◌, if◌then◌else◌, length, is_some, is_none}
use Rattle.ovl_names.specs.Names.{PathName}
use Rattle.ovl_names.specs.Paths.{PathNames, child_path, parent_path, is_root}
use Rattle.ovl_inode.specs.declared.inodes.Inode.{Inode}
use Rattle.ovl_inode.specs.Marks.{is_directory, is_regular, is_metacopy}
use Rattle.ovl_layer.specs.Layers.{Entries}
use Rattle.ovl_lookup.specs.declared.looks.Look.{Look}
use Rattle.ovl_lookup.specs.declared.looks.Look.TheVariants.{Nothing, Shown, Broken}
use Rattle.ovl_lookup.specs.Walk.{walk}
use Rattle.ovl_lookup.specs.Stacks.{StackView, from_layer}
use Rattle.ovl_lookup.specs.Trace.{trace}
use Rattle.ovl_lookup.specs.Merged.{look, shows, shows_directory}
use Rattle.ovl_lookup.specs.Words.{over, top_layer, lower_layers}

-- a merge: the upper layer, the lower layer that it is put into, and the rest under both
pub record Merge : Type 0 where
  pub upper : Entries
  pub lower : Entries
  pub rest : StackView

-- the whole stack, and the upper and the lower layer by themselves
abbrev pub whole : Merge → StackView
whole m = over m.upper (over m.lower m.rest)

abbrev pub two_layers : Merge → StackView
two_layers m = record m.rest { layers = m.upper ∷ m.lower ∷ [] }

-- the merge of a stack's topmost layer into the next
abbrev pub merge_of : StackView → Merge
merge_of stack = record {
  upper = top_layer stack;
  lower = top_layer (lower_layers stack);
  rest = from_layer 2 stack;
}

-- where a path goes on in the lower layer, and where in the rest
abbrev pub lower_path : Merge → PathNames → PathNames
lower_path m path = (walk m.upper path).next

abbrev pub rest_path : Merge → PathNames → PathNames
rest_path m path = (walk m.lower (lower_path m path)).next

-- the walks in both layers are open
abbrev pub is_open : Merge → PathNames → Bool
is_open m path = not (walk m.upper path).closed && not (walk m.lower (lower_path m path)).closed

-- the first thing that the two layers have in the trace of a path
abbrev pub first_of : List Inode → Option Inode
first_of [] = None
first_of (inode ∷ inodes) = Some inode

abbrev pub first_hit : Merge → PathNames → Option Inode
first_hit m path = first_of (trace (two_layers m) path)

abbrev pub passes : (Inode → Bool) → Option Inode → Bool
passes test None = false
passes test (Some inode) = test inode

-- the two layers show a directory at the path; and they show nothing there, and their walks aren't
-- open
abbrev pub shows_own_directory : Merge → PathNames → Bool
shows_own_directory m path = passes is_directory (first_hit m path)

abbrev pub is_hidden : Merge → PathNames → Bool
is_hidden m path = is_none (first_hit m path) && not (is_open m path)

-- there is nothing, or a thing that passes the test
abbrev pub is_nothing_or : (Inode → Bool) → Option Inode → Bool
is_nothing_or test None = true
is_nothing_or test (Some inode) = test inode

-- a regular file is shown, whole or broken
abbrev pub is_shown_regular : Look → Bool
is_shown_regular Nothing = false
is_shown_regular (Shown inode) = is_regular inode
is_shown_regular (Broken inode) = is_regular inode

-- a thing goes on at a place of the rest, where the lower layer has `lower_walk` on the way: each is of
-- its own sort, a directory for a directory, a regular file for a metacopy file; overlayfs.rst,
-- "Directories" and "Metadata only copy up"
abbrev pub goes_on_at : Merge → Inode → Option Inode → PathNames → Bool
goes_on_at m inode lower_walk place =
    if is_directory inode then is_nothing_or is_directory lower_walk && shows_directory m.rest place
    else is_metacopy inode && is_nothing_or is_metacopy lower_walk
    && is_shown_regular (look m.rest place)

-- an open path goes on through the lower layer
abbrev pub goes_on : Merge → PathNames → Inode → Bool
goes_on m path inode =
    is_open m path && goes_on_at m inode (walk m.lower (lower_path m path)).found (rest_path m path)

-- the reach of a path: where what is shown there, a directory or a metacopy file, goes on in the
-- rest
abbrev pub reach_of : Merge → PathNames → Option Inode → Option PathNames
reach_of m path None = None
reach_of m path (Some inode) = if goes_on m path inode then Some (rest_path m path) else None

abbrev pub reach : Merge → PathNames → Option PathNames
reach m path = reach_of m path (first_hit m path)

-- the rest shows a directory, or anything, at a place
abbrev pub shows_directory_at : StackView → Option PathNames → Bool
shows_directory_at rest None = false
shows_directory_at rest (Some place) = shows_directory rest place

abbrev pub shows_at : StackView → Option PathNames → Bool
shows_at rest None = false
shows_at rest (Some place) = shows rest place

-- a shown directory gets `opaque`, its natural place given: it isn't the root, has no reach, and
-- the rest shows a directory at its natural place; overlayfs.rst, "whiteouts and opaque
-- directories"
abbrev pub gets_opaque_at : Merge → PathNames → Option PathNames → Bool
gets_opaque_at m path place =
    not (is_root path) && shows_own_directory m path && is_none (reach m path)
    && shows_directory_at m.rest place

-- the base of a shown directory, its natural place given: where the names in it lie in the rest
abbrev pub base_at : Merge → PathNames → Option PathNames → Option PathNames
base_at m path place =
    if is_some (reach m path) then reach m path
    else if gets_opaque_at m path place then None
    else place

abbrev pub child_of : Option PathNames → PathName → Option PathNames
child_of None name = None
child_of (Some place) name = Some (child_path place name)

-- the last name of a path
abbrev pub last_name : PathNames → PathName
last_name [] = []
last_name (name ∷ []) = name
last_name (name ∷ other ∷ names) = last_name (other ∷ names)

-- the natural place of a path of `depth` names: the root's is the root, that of another its last
-- name in the base of its parent
abbrev pub natural_at : Merge → ℕ → PathNames → Option PathNames
natural_at m zero path = Some []
natural_at m (suc depth) path =
    child_of (base_at m (parent_path path) (natural_at m depth (parent_path path))) (last_name path)

abbrev pub natural : Merge → PathNames → Option PathNames
natural m path = natural_at m (length path) path

abbrev pub base : Merge → PathNames → Option PathNames
base m path = base_at m path (natural m path)

abbrev pub gets_opaque : Merge → PathNames → Bool
gets_opaque m path = gets_opaque_at m path (natural m path)
