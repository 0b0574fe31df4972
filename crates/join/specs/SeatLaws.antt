-- The seat of a row that joins, each from the facts that lead to it.
use Rattle.std.specs.Prelude.{◌≡◌, true, false, List, ℕ, Some, None}
use Rattle.counts.specs.Count.{one_more}
use Rattle.tree_laws.specs.Ancestor.{none}
use Rattle.layer.specs.Layout.{depth_place}
use Rattle.layer.specs.Row.{field_at, row_of}
use Rattle.layer.specs.Checked.{is_row}
use Rattle.join.specs.Chain.{top_from}
use Rattle.join.specs.Copied.{copies_links}
use Rattle.join.specs.Seat.{upper_for, leaf_under, head_of, is_seated, is_whole, seat_at, seat_of}

module _ (f m a : List ℕ) (n z p upper top depth : ℕ) where
  pub not_seated : is_seated f m z (head_of f top z upper) ≡ false → None ≡ seat_at f m a n z p upper top depth
  unfolding seat_at
  not_seated s = rw s

  module _ (s : is_seated f m z (head_of f top z upper) ≡ true) where
    pub not_whole : is_whole f m n (leaf_under f z p) (head_of f top z upper) ≡ false → None ≡ seat_at f m a n z p upper top depth
    unfolding seat_at
    not_whole w = rw (s, w)

    module _ (w : is_whole f m n (leaf_under f z p) (head_of f top z upper) ≡ true) where
      pub not_links : copies_links a n (head_of f top z upper).upper ≡ false → None ≡ seat_at f m a n z p upper top depth
      unfolding seat_at
      not_links k = rw (s, w, k)

      pub seated : copies_links a n (head_of f top z upper).upper ≡ true
          → Some (record { leaf = leaf_under f z p; upper = upper; depth = depth; head = head_of f top z upper }) ≡ seat_at f m a n z p upper top depth
      unfolding seat_at
      seated k = rw (s, w, k)

module _ (f m a : List ℕ) (n z p : ℕ) where
  pub not_row : is_row n (row_of f m) p ≡ false → None ≡ seat_of f m a n z p
  unfolding seat_of
  not_row g = rw g

  pub no_top : is_row n (row_of f m) p ≡ true → None ≡ top_from n f m n (upper_for f m n p) none → None ≡ seat_of f m a n z p
  unfolding seat_of
  no_top g e = rw (g, ← e)

  pub on_top : (top : ℕ) → is_row n (row_of f m) p ≡ true → Some top ≡ top_from n f m n (upper_for f m n p) none
      → seat_at f m a n z p (upper_for f m n p) top (one_more (field_at f p depth_place)) ≡ seat_of f m a n z p
  unfolding seat_of
  on_top top g e = rw (g, ← e)
