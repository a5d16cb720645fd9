-- For the code alone: lists of whole numbers side by side, value k of each in entry k. Each is a function of k, and told by how many of
-- its values are at most v. No contract of an entry point reaches these.
use Rattle.std.specs.Prelude.{ℕ, min, max, ◌+◌, ◌-◌, ◌*◌, ◌/◌, ◌≤◌, ◌<◌, ◌≡◌, List, [], get_or}
use Rattle.lists.specs.Tab.{tab_from, tab}
use Rattle.rank.specs.Rank.{self, entry}
use Rattle.rank.specs.Inner.{count_at_most}

abbrev pub list_count : ℕ
list_count = 16

-- list l of those in x
abbrev pub list_of : List (List ℕ) → ℕ → ℕ → ℕ
list_of x l k = get_or (get_or x k []) l 0

abbrev pub InEach : (ℕ → Type 0) → Type 0
InEach P = (l : ℕ) → l < list_count → P l

-- the entry in the middle of n values sorted rising, of an even number the upper one
abbrev pub middle_of : ℕ → (ℕ → ℕ) → ℕ
middle_of n p = entry self 0 (tab n p) (n / 2)

-- the larger of what the passes leave at the end: one value or two
abbrev pub chosen : ℕ → (ℕ → ℕ) → ℕ
chosen n p = max (p (2 * ((n - 1) / 2))) (p (n - 1))

-- how many of m values from `from` on are at most v
abbrev pub many : ℕ → ℕ → ℕ → (ℕ → ℕ) → ℕ
many v from m p = count_at_most self v (tab_from from m p)

-- the values from s up to e without a smallest and a largest one stand from s + 2 on, and from e on all is as it was
pub record Dropped (s e : ℕ) (p q : ℕ → ℕ) : Type 0 where
  pub beyond : (k : ℕ) → e ≤ k → q k ≡ p k
  pub counts : (v : ℕ) → many v (s + 2) (e - (s + 2)) q ≡ min (many v s (e - s) p - 1) (e - (s + 2))

-- that in each list
abbrev pub DroppedEach : ℕ → ℕ → List (List ℕ) → List (List ℕ) → Type 0
DroppedEach s e x x' = InEach (λ l. Dropped s e (list_of x l) (list_of x' l))

-- of each list of n values the middle one is left
abbrev pub Selected : ℕ → List (List ℕ) → List (List ℕ) → Type 0
Selected n x x' = InEach (λ l. chosen n (list_of x' l) ≡ middle_of n (list_of x l))

-- of the smallest a and the largest b so far and one value y more: the one between, and the largest; the smallest is the smaller of a and y
abbrev pub between : ℕ → ℕ → ℕ → ℕ
between a b y = min b (max a y)

abbrev pub highest : ℕ → ℕ → ℕ → ℕ
highest a b y = max b (max a y)

-- the smaller and the larger of values s and s + 1 of each list
pub record Started (s : ℕ) (x : List (List ℕ)) (lo hi : List ℕ) : Type 0 where
  pub low : InEach (λ l. get_or lo l 0 ≡ min (list_of x l s) (list_of x l (s + 1)))
  pub high : InEach (λ l. get_or hi l 0 ≡ max (list_of x l s) (list_of x l (s + 1)))

-- value k of each list is sifted, and the others are as they were
pub record Sifted (k : ℕ) (x : List (List ℕ)) (lo hi : List ℕ) (x' : List (List ℕ)) (lo' hi' : List ℕ) : Type 0 where
  pub low : InEach (λ l. get_or lo' l 0 ≡ min (get_or lo l 0) (list_of x l k))
  pub high : InEach (λ l. get_or hi' l 0 ≡ highest (get_or lo l 0) (get_or hi l 0) (list_of x l k))
  pub here : InEach (λ l. list_of x' l k ≡ between (get_or lo l 0) (get_or hi l 0) (list_of x l k))
  pub before : InEach (λ l. (q : ℕ) → q < k → list_of x' l q ≡ list_of x l q)
  pub behind : InEach (λ l. (q : ℕ) → k < q → list_of x' l q ≡ list_of x l q)
