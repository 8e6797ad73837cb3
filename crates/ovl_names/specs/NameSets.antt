-- Sets of names, as ascending lists.
use Rattle.std.specs.Prelude.{List, [], ◌∷◌}
use Rattle.std.specs.BTreeSet.{insert_key}
use Rattle.ovl_names.specs.Names.{PathName, name_cmp}

-- names put among ascending ones
abbrev pub put_names : List PathName → List PathName → List PathName
put_names names [] = names
put_names names (name ∷ more) = put_names (insert_key name_cmp names name) more
