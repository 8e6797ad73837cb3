-- Worked values of names and paths, by computation.
use Rattle.std.specs.Prelude.{◌≡◌, ◌==◌, ◌++◌, ℕ, List, [], ◌∷◌, codes, Some, None, refl, true, false, length, nat_lt, replicate}
use Rattle.std.specs.declared.cmp.Ordering.TheVariants.{Less, Equal, Greater}
use Rattle.ovl_names.specs.declared.names.NameFault.TheVariants.{Empty, TooLong, Dot, Slash, Nul, Memory}
use Rattle.ovl_names.specs.declared.paths.PathFault.TheVariants.{NotAbsolute, EmptyPart, BadPart, TooDeep, TooLong as PathTooLong, Memory as PathMemory}
use Rattle.ovl_names.specs.Order.{ascends}
use Rattle.ovl_names.specs.Names.{name_fault, name_refusal, is_name, name_cmp, slash}
use Rattle.ovl_names.specs.Paths.{PathNames, path_fault, path_refusal, depth_limit, text_parts, path_text, path_cmp, path_eq, child_path, parent_of, parent_path, is_root, longest}
use Rattle.ovl_names.specs.Escapes.{escaped, shown_path}
use Rattle.ovl_names.proofs.OnLiterals.{names_on_literals}

-- ---- a text is a name, or has a least fault

one_letter : name_fault (codes "a") ≡ None
unfolding names_on_literals
one_letter = refl

no_byte : name_fault [] ≡ Some Empty
unfolding names_on_literals
no_byte = refl

as_long_as_allowed : name_fault (replicate 255 97) ≡ None
unfolding names_on_literals
as_long_as_allowed = refl

one_byte_too_long : name_fault (replicate 256 97) ≡ Some TooLong
unfolding names_on_literals
one_byte_too_long = refl

too_long_with_separator : name_fault (replicate 299 97 ++ slash ∷ []) ≡ Some TooLong
unfolding names_on_literals
too_long_with_separator = refl

one_dot : name_fault (codes ".") ≡ Some Dot
unfolding names_on_literals
one_dot = refl

two_dots : name_fault (codes "..") ≡ Some Dot
unfolding names_on_literals
two_dots = refl

three_dots : name_fault (codes "...") ≡ None
unfolding names_on_literals
three_dots = refl

separator_inside : name_fault (codes "a/b") ≡ Some Slash
unfolding names_on_literals
separator_inside = refl

separator_alone : name_fault (codes "/") ≡ Some Slash
unfolding names_on_literals
separator_alone = refl

separator_and_NUL : name_fault (0 ∷ slash ∷ []) ≡ Some Slash
unfolding names_on_literals
separator_and_NUL = refl

NUL_at_end : name_fault (97 ∷ 0 ∷ []) ≡ Some Nul
unfolding names_on_literals
NUL_at_end = refl

name_of_two_bytes_a_letter : is_name (0xc3 ∷ 0xa9 ∷ []) ≡ true
unfolding names_on_literals
name_of_two_bytes_a_letter = refl

byte_of_no_letter : is_name (0xff ∷ []) ≡ false
unfolding names_on_literals
byte_of_no_letter = refl

half_a_letter : is_name (0xc3 ∷ []) ≡ false
unfolding names_on_literals
half_a_letter = refl

separator_is_no_name : is_name (codes "a/b") ≡ false
unfolding names_on_literals
separator_is_no_name = refl

memory_says_no_fault : (name_refusal Memory ≡ None) × (name_refusal TooLong ≡ Some TooLong)
unfolding names_on_literals
memory_says_no_fault = (refl, refl)

-- ---- a text is a path, or has a least fault

separator_is_root : path_fault depth_limit (codes "/") ≡ None
unfolding names_on_literals
separator_is_root = refl

two_names : path_fault depth_limit (codes "/a/b") ≡ None
unfolding names_on_literals
two_names = refl

relative_path : path_fault depth_limit (codes "a") ≡ Some NotAbsolute
unfolding names_on_literals
relative_path = refl

relative_path_with_parts : path_fault depth_limit (codes "a//..") ≡ Some NotAbsolute
unfolding names_on_literals
relative_path_with_parts = refl

empty_path : path_fault depth_limit [] ≡ Some NotAbsolute
unfolding names_on_literals
empty_path = refl

separator_at_end : path_fault depth_limit (codes "/a/") ≡ Some EmptyPart
unfolding names_on_literals
separator_at_end = refl

two_separators : path_fault depth_limit (codes "//") ≡ Some EmptyPart
unfolding names_on_literals
two_separators = refl

empty_part_after_bad_one : path_fault depth_limit (codes "/..//a") ≡ Some EmptyPart
unfolding names_on_literals
empty_part_after_bad_one = refl

dots_as_part : path_fault depth_limit (codes "/a/..") ≡ Some BadPart
unfolding names_on_literals
dots_as_part = refl

bad_part_too_deep : path_fault 1 (codes "/a/b/.") ≡ Some BadPart
unfolding names_on_literals
bad_part_too_deep = refl

NUL_in_part : path_fault depth_limit (slash ∷ 0 ∷ []) ≡ Some BadPart
unfolding names_on_literals
NUL_in_part = refl

part_of_256_bytes : path_fault depth_limit (slash ∷ replicate 256 97) ≡ Some BadPart
unfolding names_on_literals
part_of_256_bytes = refl

as_deep_as_allowed : path_fault depth_limit (path_text (replicate 128 (codes "d"))) ≡ None
unfolding names_on_literals
as_deep_as_allowed = refl

one_name_too_deep : path_fault depth_limit (path_text (replicate 129 (codes "d"))) ≡ Some TooDeep
unfolding names_on_literals
one_name_too_deep = refl

text_as_long_as_allowed : path_fault depth_limit (path_text (replicate 15 (replicate 255 110) ++ replicate 254 110 ∷ [])) ≡ None
unfolding names_on_literals
text_as_long_as_allowed = refl

text_one_byte_too_long : path_fault depth_limit (path_text (replicate 16 (replicate 255 110))) ≡ Some PathTooLong
unfolding names_on_literals
text_one_byte_too_long = refl

too_deep_and_too_long : path_fault 15 (path_text (replicate 16 (replicate 255 110))) ≡ Some TooDeep
unfolding names_on_literals
too_deep_and_too_long = refl

memory_says_no_path_fault : (path_refusal PathMemory ≡ None) × (path_refusal TooDeep ≡ Some TooDeep)
unfolding names_on_literals
memory_says_no_path_fault = (refl, refl)

-- ---- the names that a path's text spells, and its text

no_names : text_parts (codes "/") ≡ []
unfolding names_on_literals
no_names = refl

one_name : text_parts (codes "/a") ≡ codes "a" ∷ []
unfolding names_on_literals
one_name = refl

names_from_root_down : text_parts (codes "/a/bc") ≡ codes "a" ∷ codes "bc" ∷ []
unfolding names_on_literals
names_from_root_down = refl

parts_of_two_separators : text_parts (codes "//") ≡ [] ∷ [] ∷ []
unfolding names_on_literals
parts_of_two_separators = refl

text_of_root : path_text [] ≡ codes "/"
unfolding names_on_literals
text_of_root = refl

text_of_names : path_text (codes "a" ∷ codes "bc" ∷ []) ≡ codes "/a/bc"
unfolding names_on_literals
text_of_names = refl

-- ---- order: name by name as bytes, and a path before its continuations

abbrev path : List ℕ → PathNames
path text = text_parts text

root_before_name : path_cmp (path (codes "/")) (path (codes "/a")) ≡ Less
unfolding names_on_literals
root_before_name = refl

directory_before_entry : path_cmp (path (codes "/a")) (path (codes "/a/b")) ≡ Less
unfolding names_on_literals
directory_before_entry = refl

entry_before_next_name : path_cmp (path (codes "/a/b")) (path (codes "/a-b")) ≡ Less
unfolding names_on_literals
entry_before_next_name = refl

name_before_longer_name : path_cmp (path (codes "/a")) (path (codes "/aa")) ≡ Less
unfolding names_on_literals
name_before_longer_name = refl

upper_case_before_lower : path_cmp (path (codes "/B")) (path (codes "/a")) ≡ Less
unfolding names_on_literals
upper_case_before_lower = refl

last_byte_after_ascii : path_cmp ((0xc3 ∷ 0xa9 ∷ []) ∷ []) (path (codes "/z")) ≡ Greater
unfolding names_on_literals
last_byte_after_ascii = refl

next_name_after_entry : path_cmp (path (codes "/a-b")) (path (codes "/a/b")) ≡ Greater
unfolding names_on_literals
next_name_after_entry = refl

one_path : (path_cmp (path (codes "/a/b")) (path (codes "/a/b")) ≡ Equal) × (path_eq (path (codes "/a/b")) (path (codes "/a/b")) ≡ true)
unfolding names_on_literals
one_path = (refl, refl)

split_elsewhere : path_eq (path (codes "/a/b")) (codes "ab" ∷ []) ≡ false
unfolding names_on_literals
split_elsewhere = refl

four_in_order : ascends path_cmp (path (codes "/") ∷ path (codes "/a") ∷ path (codes "/a/b") ∷ path (codes "/a-b") ∷ []) ≡ true
unfolding names_on_literals
four_in_order = refl

twice_the_same : ascends path_cmp (path (codes "/") ∷ path (codes "/a") ∷ path (codes "/a") ∷ []) ≡ false
unfolding names_on_literals
twice_the_same = refl

out_of_order : ascends path_cmp (path (codes "/") ∷ path (codes "/b") ∷ path (codes "/a") ∷ []) ≡ false
unfolding names_on_literals
out_of_order = refl

shorter_name_first : name_cmp (codes "d") (codes "d0") ≡ Less
unfolding names_on_literals
shorter_name_first = refl

dash_before_letter : name_cmp (codes "a-b") (codes "ab") ≡ Less
unfolding names_on_literals
dash_before_letter = refl

-- ---- directories and their entries

child_of_root : child_path [] (codes "a") ≡ path (codes "/a")
unfolding names_on_literals
child_of_root = refl

child_of_directory : child_path (path (codes "/a")) (codes "b") ≡ path (codes "/a/b")
unfolding names_on_literals
child_of_directory = refl

parent_of_entry : parent_of (path (codes "/a/b")) ≡ Some (path (codes "/a"))
unfolding names_on_literals
parent_of_entry = refl

parent_of_name : parent_of (path (codes "/a")) ≡ Some []
unfolding names_on_literals
parent_of_name = refl

root_has_no_parent : parent_of (path (codes "/")) ≡ None
unfolding names_on_literals
root_has_no_parent = refl

root_stays : parent_path [] ≡ []
unfolding names_on_literals
root_stays = refl

root_is_root : (is_root [] ≡ true) × (is_root (path (codes "/a")) ≡ false)
unfolding names_on_literals
root_is_root = (refl, refl)

prefix_of_two : longest (λ found. nat_lt (length found) 3) (path (codes "/a/b/c/d")) ≡ path (codes "/a/b")
unfolding names_on_literals
prefix_of_two = refl

prefix_past_a_gap : longest (λ found. length found == 3) (path (codes "/a/b/c/d")) ≡ path (codes "/a/b/c")
unfolding names_on_literals
prefix_past_a_gap = refl

whole_path : longest (λ found. true) (path (codes "/a/b")) ≡ path (codes "/a/b")
unfolding names_on_literals
whole_path = refl

no_prefix : longest (λ found. false) (path (codes "/a/b")) ≡ []
unfolding names_on_literals
no_prefix = refl

-- ---- what reports show

space_shown : escaped (codes "a b") ≡ codes "a\\x20b"
unfolding names_on_literals
space_shown = refl

letter_of_two_bytes_shown : escaped (0xc3 ∷ 0xa9 ∷ []) ≡ codes "\\xc3\\xa9"
unfolding names_on_literals
letter_of_two_bytes_shown = refl

backslash_shown : escaped (codes "\\") ≡ codes "\\x5c"
unfolding names_on_literals
backslash_shown = refl

first_and_last_plain : escaped (0x21 ∷ 0x7e ∷ []) ≡ 0x21 ∷ 0x7e ∷ []
unfolding names_on_literals
first_and_last_plain = refl

line_end_and_delete_shown : escaped (10 ∷ 0x7f ∷ []) ≡ codes "\\x0a\\x7f"
unfolding names_on_literals
line_end_and_delete_shown = refl

root_shown : shown_path [] ≡ codes "/"
unfolding names_on_literals
root_shown = refl

names_shown : shown_path (path (codes "/a/b")) ≡ codes "/a/b"
unfolding names_on_literals
names_shown = refl

names_with_spaces_shown : shown_path (path (codes "/a b/ ")) ≡ codes "/a\\x20b/\\x20"
unfolding names_on_literals
names_with_spaces_shown = refl
