-- A row that stands alone in the lent parts: a tree by itself, numbered as one (02: a first node; the nodes of a linked tree before they join).
use Rattle.std.specs.Prelude.{List, ℕ}
use Rattle.tree_laws.specs.Ancestor.{none}
use Rattle.layer.specs.Layout.{size_place, set_size_place, depth_place, start_place, next_free_place}
use Rattle.layer.specs.Write.{with_field, with_number}
use Rattle.renumber.specs.Entries.{with_entries}
use Rattle.join.specs.Attach.{new_links}

unfoldable pub lone_fields : List ℕ → ℕ → List ℕ
lone_fields f x = with_field (with_field (with_field (new_links f x none none) x size_place 1) x set_size_place 1) x depth_place 0

unfoldable pub lone_numbers : List ℕ → ℕ → List ℕ
lone_numbers m x = with_number (with_number m x start_place 0) x next_free_place 1

unfoldable pub lone_entries : List ℕ → ℕ → List ℕ
lone_entries a x = with_entries a x none 1
