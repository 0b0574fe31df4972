-- The row check says that the row is sound.
use Rattle.std.specs.Prelude.{◌≡◌, ℕ, ◌≤◌, Bool, ◌&&◌, nat_le}
use Rattle.laws.specs.Test.{Says, says_map, says_and, says_or, says_leb, says_ltb, says_eqb}
use Rattle.tree_laws.specs.Ancestor.{none}
use Rattle.span.specs.Constants.{limit}
use Rattle.span.specs.Numbers.{end_of}
use Rattle.layer.specs.declared.row.Row.{Row}
use Rattle.layer.specs.Sound.{Link, is_link, Sound, has_links, has_sizes, has_numbers, is_sound}

pub says_link : (n x : ℕ) → Says (Link n x) (is_link n x)
says_link n x = says_or (says_eqb x none) (says_ltb x n)

-- the test's parts, nested as it nests them
abbrev Parts : ℕ → Row → Type 0
Parts n r =
    ((((((Link n r.parent × Link n r.first) × Link n r.last) × Link n r.next) × Link n r.upper) × Link n r.path) ×
    ((r.size ≤ n) × (r.set_size ≤ n))) ×
    ((end_of r.start r.set_size ≤ limit) × (r.next_free ≤ limit))

pub says_sound : (n : ℕ) (r : Row) → Says (Sound n r) (is_sound n r)
unfolding is_sound
says_sound n r = says_map to from (both (both links sizes) numbers)
  where
    both : {A B : Type 0} {a b : Bool} → Says A a → Says B b → Says (A × B) (a && b)
    both x y = says_and x (λ _. y)

    link : (x : ℕ) → Says (Link n x) (is_link n x)
    link = says_link n

    links : Says (((((Link n r.parent × Link n r.first) × Link n r.last) × Link n r.next) × Link n r.upper) × Link n r.path) (has_links n r)
    links = both (both (both (both (both (link r.parent) (link r.first)) (link r.last)) (link r.next)) (link r.upper)) (link r.path)

    sizes : Says ((r.size ≤ n) × (r.set_size ≤ n)) (has_sizes n r)
    sizes = both (says_leb r.size n) (says_leb r.set_size n)

    numbers : Says ((end_of r.start r.set_size ≤ limit) × (r.next_free ≤ limit)) (has_numbers r)
    numbers = both (says_leb (end_of r.start r.set_size) limit) (says_leb r.next_free limit)

    to : Parts n r → Sound n r
    to h =
        let l = h.0.0 in
        record {
          parent = l.0.0.0.0.0;
          first = l.0.0.0.0.1;
          last = l.0.0.0.1;
          next = l.0.0.1;
          upper = l.0.1;
          path = l.1;
          size = h.0.1.0;
          set_size = h.0.1.1;
          end = h.1.0;
          next_free = h.1.1;
        }

    from : Sound n r → Parts n r
    from s = (((((((s.parent, s.first), s.last), s.next), s.upper), s.path), (s.size, s.set_size)), (s.end, s.next_free))

-- the test from the answers that the code gathers
pub record Gathered (n : ℕ) (r : Row) (parent first last next upper path end : Bool) : Type 0 where
  pub parent_is : parent ≡ is_link n r.parent
  pub first_is : first ≡ is_link n r.first
  pub last_is : last ≡ is_link n r.last
  pub next_is : next ≡ is_link n r.next
  pub upper_is : upper ≡ is_link n r.upper
  pub path_is : path ≡ is_link n r.path
  pub end_is : end ≡ nat_le (end_of r.start r.set_size) limit

pub gathered : {n : ℕ} {r : Row} {parent first last next upper path end : Bool} → Gathered n r parent first last next upper path end
    → parent && first && last && next && upper && path && (nat_le r.size n && nat_le r.set_size n) && (end && nat_le r.next_free limit) ≡ is_sound n r
unfolding is_sound
gathered g = rw (g.parent_is, g.first_is, g.last_is, g.next_is, g.upper_is, g.path_is, g.end_is)
