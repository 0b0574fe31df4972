-- Lists of a column row by row, over any tree: a list is as long as its row is deep, and lists are equal exactly where their last numbers are and the lists above.
-- Rows are alike exactly where their labels and faces are equal and the rows above are alike.
use Rattle.std.specs.Prelude.{◌≡◌, refl, List, [], ◌∷◌, ◌++◌, ◌≢◌, ℕ, ◌<◌, length}
use Rattle.std.proofs.Common.{sym, ap, ◌∙◌, arith, length-append}
use Rattle.tree_laws.specs.Ancestor.{none}
use Rattle.tree_laws.specs.Depth.{Depth}
use Rattle.tree_laws.specs.DepthLaws.{depth_forest}
use Rattle.tree_laws.specs.Answer.{Listed, root, below, SameList, Alike}
use Rattle.plain_list.specs.Naive.{list_of}
use Rattle.plain_list.proofs.AnswerLaws.{list_unique}
use Rattle.plain_list.proofs.NaiveLaws.{naive_list}

-- lists that end alike: l and m before the last numbers a and b
record SameEnd (l m : List ℕ) (a b : ℕ) : Type 0 where
  start : l ≡ m
  last : a ≡ b

end_unique : (l m : List ℕ) (a b : ℕ) → l ++ (a ∷ []) ≡ m ++ (b ∷ []) → SameEnd l m a b
end_unique [] [] a b e = record { start = refl; last = cc }
end_unique [] (y ∷ m) a b e = absurd (omega (arith, length-append m (b ∷ []), ap length e))
end_unique (x ∷ l) [] a b e = absurd (omega (arith, length-append l (a ∷ []), ap length e))
end_unique (x ∷ l) (y ∷ m) a b e =
    let first : x ≡ y = cc in
    let rest = end_unique l m a b (cc) in
    record { start = rw (first, rest.start); last = rest.last }

-- the last numbers are equal, and the lists above
record SameAbove (up column : ℕ → ℕ) (x y : ℕ) : Type 0 where
  last : column x ≡ column y
  above : SameList up column (up x) (up y)

module _ {up depth : ℕ → ℕ} {n : ℕ} (t : Depth up depth n) (column : ℕ → ℕ) where
  list_of_lem : (x : ℕ) → x < n → Listed up column x (list_of up column (depth x) x)
  list_of_lem x l = naive_list (depth_forest t) column (depth x) x l (omega arith)

  list_length : {x : ℕ} {l : List ℕ} → x < n → Listed up column x l → length l ≡ depth x
  list_length {x} i (root e) = sym (t.root x i e)
  list_length {x} i (below {l = k} h p) =
      omega (arith, length-append k (column x ∷ []), list_length (t.inside x i h) p, t.step x i h)

  pub same_depth : {x y : ℕ} → x < n → y < n → SameList up column x y → depth x ≡ depth y
  same_depth l m s = sym (list_length l s.left) ∙ list_length m s.right

  same_itself : (x : ℕ) → x < n → SameList up column x x
  same_itself x l = record { list = list_of up column (depth x) x; left = list_of_lem x l; right = list_of_lem x l }

  same_below : {x y : ℕ} → up x ≢ none → up y ≢ none → SameAbove up column x y → SameList up column x y
  same_below {x} {y} h k s = record { list = s.above.list ++ (column x ∷ []); left = below h s.above.left; right = rw s.last (below k s.above.right) }

  same_above : {x y : ℕ} → x < n → y < n → up x ≢ none → up y ≢ none → SameList up column x y → SameAbove up column x y
  same_above {x} {y} l m h k s =
      let p = list_of_lem (up x) (t.inside x l h) in
      let q = list_of_lem (up y) (t.inside y m k) in
      let e = end_unique (list_of up column (depth (up x)) (up x)) (list_of up column (depth (up y)) (up y)) (column x) (column y)
      (list_unique (below h p) s.left ∙ list_unique s.right (below k q)) in
      record { last = e.last; above = record { list = list_of up column (depth (up y)) (up y); left = rw e.start at p; right = q } }

-- Labels and faces

-- the labels and the faces are equal, and the rows above are alike
pub record AlikeAbove (up label face : ℕ → ℕ) (x y : ℕ) : Type 0 where
  pub last_label : label x ≡ label y
  pub last_face : face x ≡ face y
  pub above : Alike up label face (up x) (up y)

module _ {up depth : ℕ → ℕ} {n : ℕ} (t : Depth up depth n) (label face : ℕ → ℕ) where
  pub alike_itself : (x : ℕ) → x < n → Alike up label face x x
  alike_itself x l = record { labels = same_itself t label x l; faces = same_itself t face x l }

  pub alike_below : {x y : ℕ} → up x ≢ none → up y ≢ none → AlikeAbove up label face x y → Alike up label face x y
  alike_below h k s = record {
    labels = same_below t label h k record { last = s.last_label; above = s.above.labels };
    faces = same_below t face h k record { last = s.last_face; above = s.above.faces };
  }

  pub alike_above : {x y : ℕ} → x < n → y < n → up x ≢ none → up y ≢ none → Alike up label face x y → AlikeAbove up label face x y
  alike_above l m h k s =
      let p = same_above t label l m h k s.labels in
      let q = same_above t face l m h k s.faces in
      record { last_label = p.last; last_face = q.last; above = record { labels = p.above; faces = q.above } }
