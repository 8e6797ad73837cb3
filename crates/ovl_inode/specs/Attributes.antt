-- Extended attributes: pairs of a name and a value, both bytes, ascending by name.
use Rattle.std.specs.Prelude.{ℕ, Bool, ◌&&◌, ◌==◌, not, if◌then◌else◌, Option, Some, None, List, ◌++◌, length, nat_lt, codes, is_none, nat_eq, filter}
use Rattle.std.specs.List.{list_any, list_all, starts_with}
use Rattle.std.specs.Map.{lookup}
use Rattle.std.specs.Ordering.{is_lt}
use Rattle.std.specs.BTreeMap.{insert_entry}
use Rattle.std.specs.Str.{is_utf8}
use Rattle.std.specs.declared.cmp.Ordering.{Ordering}
use Rattle.ovl_names.specs.Names.{name_eq, name_cmp}
use Rattle.ovl_names.specs.Order.{ascends}
use Rattle.ovl_inode.specs.Bytes.{are_bytes}
use Rattle.ovl_inode.specs.declared.attributes.AttrFault.{AttrFault}
use Rattle.ovl_inode.specs.declared.attributes.AttrFault.TheVariants.{Name, Memory}

-- the attributes of an inode
abbrev pub Attributes : Type 0
Attributes = List (List ℕ × List ℕ)

-- the most bytes of an attribute's name
abbrev pub attribute_name_limit : ℕ
attribute_name_limit = 255

-- the fault of a text that names no attribute: it has 1 to 255 bytes without NUL
abbrev pub attribute_fault : List ℕ → Option AttrFault
attribute_fault name =
    if length name == 0 then Some Name
    else if nat_lt attribute_name_limit (length name) then Some Name
    else if list_any (λ byte. byte == 0) name then Some Name
    else None

-- what a refusal says of the name: out of memory says that it has no fault
abbrev pub attribute_refusal : AttrFault → Option AttrFault
attribute_refusal Name = Some Name
attribute_refusal Memory = None

-- a name of an attribute is a text without such a fault
abbrev pub is_attribute_name : List ℕ → Bool
is_attribute_name name = is_none (attribute_fault name) && is_utf8 name

-- attributes have names, values of bytes, and ascend by name
abbrev pub attribute_cmp : List ℕ × List ℕ → List ℕ × List ℕ → Ordering
attribute_cmp one other = name_cmp one.0 other.0

abbrev pub is_attribute : List ℕ × List ℕ → Bool
is_attribute attr = is_attribute_name attr.0 && are_bytes attr.1

abbrev pub are_attributes : Attributes → Bool
are_attributes attrs = list_all is_attribute attrs && ascends attribute_cmp attrs

-- the attributes' names come before `name`
abbrev pub all_before : Attributes → List ℕ → Bool
all_before attrs name = list_all (λ attr. is_lt (name_cmp attr.0 name)) attrs

-- the value of the attribute `name`
abbrev pub attribute : Attributes → List ℕ → Option (List ℕ)
attribute attrs name = lookup (name_eq name) attrs

-- the attributes with this value at `name`, and as they were at the other names
abbrev pub with_attribute : Attributes → List ℕ → List ℕ → Attributes
with_attribute attrs name value = insert_entry name_cmp attrs name value

-- what begins the names of the overlay's attributes, and of those that a nested overlay escapes
abbrev pub overlay_prefix : List ℕ
overlay_prefix = codes "trusted.overlay."

abbrev pub escape_prefix : List ℕ
escape_prefix = codes "trusted.overlay.overlay."

-- the names of the overlay's attributes that say something of their own
abbrev pub opaque_name : List ℕ
opaque_name = overlay_prefix ++ codes "opaque"

abbrev pub redirect_name : List ℕ
redirect_name = overlay_prefix ++ codes "redirect"

abbrev pub metacopy_name : List ℕ
metacopy_name = overlay_prefix ++ codes "metacopy"

abbrev pub whiteout_name : List ℕ
whiteout_name = overlay_prefix ++ codes "whiteout"

abbrev pub impure_name : List ℕ
impure_name = overlay_prefix ++ codes "impure"

abbrev pub origin_name : List ℕ
origin_name = overlay_prefix ++ codes "origin"

abbrev pub is_overlay_name : List ℕ → Bool
is_overlay_name name = starts_with nat_eq name overlay_prefix

abbrev pub is_escaped_name : List ℕ → Bool
is_escaped_name name = starts_with nat_eq name escape_prefix

-- some attribute's name is escaped
abbrev pub has_escaped_name : Attributes → Bool
has_escaped_name attrs = list_any (λ attr. is_escaped_name attr.0) attrs

-- the attributes that the merged tree shows
abbrev pub visible_attributes : Attributes → Attributes
visible_attributes attrs = filter (λ attr. not (is_overlay_name attr.0)) attrs
