-- The entries that a head copies, one by one.
use Rattle.std.specs.Prelude.{◌≡◌, refl, Bool, true, ◌&&◌, List, [], ◌∷◌, ℕ, zero, suc, ◌+◌, ◌*◌, ◌≤◌, ◌<◌, length, get_or, take, drop, replicate}
use Rattle.std.proofs.Common.{ap, sym, ◌∙◌, arith}
use Rattle.std.proofs.Math.Bool.{and_assoc, and-true}
use Rattle.tree_laws.specs.Ancestor.{none}
use Rattle.layer.specs.Layout.{entry_stride}
use Rattle.layer.specs.Sound.{is_link}
use Rattle.renumber.specs.EntriesLaws.{above_none, above_row}
use Rattle.join.specs.Copied.{are_links, copies_links}

-- one more entry
pub links_more : (n i : ℕ) (l : List ℕ) → i < length l → (are_links n (take i l) && is_link n (get_or l i 0)) ≡ are_links n (take (suc i) l)
unfolding are_links
links_more n i [] h = absurd (omega arith)
links_more n zero (e ∷ es) h = sym (and-true (is_link n e))
links_more n (suc i) (e ∷ es) h =
    and_assoc (is_link n e) (are_links n (take i es)) (is_link n (get_or es i 0)) ∙ ap (λ (b : Bool). is_link n e && b) (links_more n i es (omega arith))

-- all of them
pub are_links_lem : (n : ℕ) (l : List ℕ) → ((i : ℕ) → i < length l → is_link n (get_or l i 0) ≡ true) → are_links n l ≡ true
unfolding are_links
are_links_lem n [] h = refl
are_links_lem n (e ∷ es) h = rw (h 0 (omega arith)) (are_links_lem n es (λ i l. h (suc i) (omega arith)))

links_none : (n k : ℕ) → are_links n (replicate k none) ≡ true
unfolding are_links
links_none n zero = refl
links_none n (suc k) = links_none n k

-- by whether there is an upper row
pub copies_none : (a : List ℕ) (n u : ℕ) → length a < u * entry_stride + entry_stride → true ≡ copies_links a n u
unfolding copies_links
copies_none a n u h = rw (above_none a u h) (sym (links_none n entry_stride))

pub copies_row : (a : List ℕ) (n u : ℕ) → u * entry_stride + entry_stride ≤ length a → are_links n (take entry_stride (drop (u * entry_stride) a)) ≡ copies_links a n u
unfolding copies_links
copies_row a n u h = rw (above_row a u h)
