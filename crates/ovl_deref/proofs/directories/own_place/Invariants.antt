use Rattle.std.proofs.Common.{◌≡◌, ◌<◌, ◌++◌, length, false}
use Rattle.ovl_layer.specs.Sheets.{path_at}
use Rattle.ovl_deref.specs.Directories.{is_at_moved}
use Rattle.ovl_deref.proofs.directories.own_place.Given as goal

-- the path so far, with the names that are left, is all
abbrev pub invariant-loop-name : goal.invariant-loop-name
invariant-loop-name l = record {
  inside : l.row < length l.sheet;
  there : path_at l.sheet l.row ++ l.name-iterator ≡ l.dir;
  free : is_at_moved l.sheet (path_at l.sheet l.row) ≡ false;
}
