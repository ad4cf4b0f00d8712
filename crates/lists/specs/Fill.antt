-- Loops that write an array in order towards a list that is known beforehand, and loops that write over a slice: what holds of them at each
-- turn, and how it goes on. Cited by the proofs of the loops in counts, choice, slot, slots and reader.
use Rattle.std.specs.Prelude.{◌≡◌, refl, List, ◌++◌, ℕ, suc, ◌+◌, ◌≤◌, ◌<◌, length, take, drop, get_or, set}
use Rattle.std.proofs.Common.{ap, sym, ◌∙◌, append-nil, add-one, zero-add, arith, length-append, length-drop, drop_of_length-le, drop-cons}
use Rattle.std.proofs.Common.{take-suc, take_all, length-take-le}
use Rattle.std.proofs.lemmas.List.{set_at, get_or_at, set-get_or}
use Rattle.std.proofs.Math.Seq.{append_snoc}
use Rattle.rules.specs.Words.{map_at, tab}
use Rattle.lists.specs.Lists.{map_from_long, map_at_at, tab_long, tab_snoc}

-- the first `i` of `ys`, and after them what `xs` has from `i` on
abbrev pub blend {ℓ} : {A : Type ℓ} → ℕ → List A → List A → List A
blend i ys xs = take i ys ++ drop i xs

module _ {ℓ} {A : Type ℓ} (ys xs : List A) (same : length ys ≡ length xs) where
  blend_at : (i : ℕ) (d : A) → i < length xs → get_or (blend i ys xs) i d ≡ get_or xs i d
  blend_at i d h =
      rw (drop-cons xs i d h) (get_or_at (take i ys) (get_or xs i d) (drop (suc i) xs) d i (length-take-le i ys (omega arith)))

  blend-more : (i : ℕ) (d : A) → i < length xs → set (blend i ys xs) i (get_or ys i d) ≡ blend (i + 1) ys xs
  blend-more i d h =
      let k : i < length ys = omega arith in
      rw (drop-cons xs i d h)
      (set_at (take i ys) (get_or xs i d) (drop (suc i) xs) (get_or ys i d) i (length-take-le i ys (omega arith)) ∙
      rw (add-one, take-suc ys i d k, append_snoc))

  blend_all : (n : ℕ) → length xs ≤ n → blend n ys xs ≡ ys
  blend_all n h =
      let k : length ys ≤ n = omega arith in
      rw (take_all n ys k, drop_of_length-le xs h, append-nil)

-- a loop that writes an array of `n` elements in order: it began at `xs`, is to end at `ys`, and stands at index `i` with `s`
pub record Filling {A : Type 0} (n : ℕ) (ys xs s : List A) (i : ℕ) : Type 0 where
  pub within : i ≤ n
  pub long : length xs ≡ n
  pub long' : length ys ≡ n
  pub so_far : s ≡ blend i ys xs

pub filling_none : {A : Type 0} (n : ℕ) (ys xs : List A) → length xs ≡ n → length ys ≡ n → Filling n ys xs xs 0
filling_none n ys xs p q = record { within = omega arith; long = p; long' = q; so_far = refl }

module _ {A : Type 0} (n : ℕ) (ys xs s : List A) where
  pub filling_at : (i : ℕ) (d : A) → i < n → Filling n ys xs s i → get_or s i d ≡ get_or xs i d
  filling_at i d h w = rw w.so_far (blend_at ys xs (w.long' ∙ sym w.long) i d (omega arith))

  pub filling_store : (i : ℕ) (d r : A) → i < n → Filling n ys xs s i → r ≡ get_or ys i d → Filling n ys xs (set s i r) (i + 1)
  filling_store i d r h w e =
      record {
        within = omega arith;
        long = w.long;
        long' = w.long';
        so_far = rw (w.so_far, e) (blend-more ys xs (w.long' ∙ sym w.long) i d (omega arith));
      }

  pub filling_keep : (i : ℕ) (d : A) → i < n → Filling n ys xs s i → get_or xs i d ≡ get_or ys i d → Filling n ys xs s (i + 1)
  filling_keep i d h w e =
      record {
        within = omega arith;
        long = w.long;
        long' = w.long';
        so_far =
            sym (set-get_or s i d) ∙
            rw (filling_at i d h w, e) (rw w.so_far (blend-more ys xs (w.long' ∙ sym w.long) i d (omega arith)));
      }

  pub filling_all : (i : ℕ) → n ≤ i → Filling n ys xs s i → s ≡ ys
  filling_all i h w = w.so_far ∙ blend_all ys xs (w.long' ∙ sym w.long) i (omega arith)

-- ---- where each element is to be `f` of its index and what it was
pub each_none : {A : Type 0} (f : ℕ → A → A) (n : ℕ) (xs : List A) → length xs ≡ n → Filling n (map_at f xs) xs xs 0
each_none f n xs p = filling_none n (map_at f xs) xs p (map_from_long f 0 xs ∙ p)

module _ {A : Type 0} (f : ℕ → A → A) (n : ℕ) (xs s : List A) where
  pub each_store : (i : ℕ) (d r : A) → i < n → Filling n (map_at f xs) xs s i → r ≡ f i (get_or s i d)
      → Filling n (map_at f xs) xs (set s i r) (i + 1)
  each_store i d r h w e =
      filling_store n (map_at f xs) xs s i d r h w
      (e ∙ ap (f i) (filling_at n (map_at f xs) xs s i d h w) ∙ sym (map_at_at f xs i d (omega (arith, w.long))))

  pub each_keep : (i : ℕ) (d : A) → i < n → Filling n (map_at f xs) xs s i → f i (get_or s i d) ≡ get_or s i d
      → Filling n (map_at f xs) xs s (i + 1)
  each_keep i d h w e =
      let a = filling_at n (map_at f xs) xs s i d h w in
      filling_keep n (map_at f xs) xs s i d h w (sym (map_at_at f xs i d (omega (arith, w.long)) ∙ ap (f i) (sym a) ∙ e ∙ a))

-- ---- a loop that writes f 0, f 1, .. in order over what a slice held: it began at `xs` and stands at index `i` with `s`
pub record Laying {A : Type 0} (f : ℕ → A) (xs s : List A) (i : ℕ) : Type 0 where
  pub within : i ≤ length xs
  pub so_far : s ≡ tab f 0 i ++ drop i xs

pub laying_none : {A : Type 0} (f : ℕ → A) (xs : List A) → Laying f xs xs 0
unfolding tab
laying_none f xs = record { within = omega arith; so_far = refl }

module _ {A : Type 0} (f : ℕ → A) (xs s : List A) (i : ℕ) where
  pub laying_long : Laying f xs s i → length s ≡ length xs
  laying_long w = omega (arith, ap length w.so_far, length-append (tab f 0 i) (drop i xs), tab_long f 0 i, length-drop i xs, w.within)

  pub laying_store : (d r : A) → i < length xs → Laying f xs s i → r ≡ f i → Laying f xs (set s i r) (i + 1)
  laying_store d r h w e =
      record {
        within = omega arith;
        so_far =
            rw (w.so_far, e, drop-cons xs i d h)
            (set_at (tab f 0 i) (get_or xs i d) (drop (suc i) xs) (f i) i (tab_long f 0 i)
            ∙ rw (add-one, tab_snoc f 0 i, zero-add, append_snoc));
      }
