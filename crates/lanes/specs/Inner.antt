-- For the code alone: the lanes of a strip while it is walked down, and strips side by side, all with target lane 2. No contract of an
-- entry point reaches these.
use Rattle.std.specs.Prelude.{ℕ, ◌+◌, ◌-◌, ◌*◌, ◌≤◌, ◌<◌, Bool, not, ◌≡◌, List, eqb, get_or}
use Rattle.lists.specs.Picture.{bit}
use Rattle.lanes.specs.declared.Lanes.{Lanes}
use Rattle.lanes.specs.declared.Strips.{Strips}
use Rattle.lanes.specs.Score.{Place, onward, least_cost, on_strip, at, score}
use Rattle.lists.specs.Tab.{tab}

-- bytes of 0 and 1
abbrev pub Marks : List ℕ → Type 0
Marks e = (k : ℕ) → get_or e k 0 ≤ 1

-- each lane holds n less its cost
pub record LanesHold (n : ℕ) (cost : ℕ → ℕ) (v : Lanes) : Type 0 where
  pub a : v.a + cost 0 ≡ n
  pub b : v.b + cost 1 ≡ n
  pub c : v.c + cost 2 ≡ n
  pub d : v.d + cost 3 ≡ n
  pub e : v.e + cost 4 ≡ n

-- every lane's cost is below n
abbrev pub Below : ℕ → (ℕ → ℕ) → Type 0
Below n cost = (j : ℕ) → j ≤ 4 → cost j < n

-- 1 where the byte at k is no set point
abbrev pub unset : List ℕ → ℕ → ℕ
unset e k = bit (not (eqb (get_or e k 0) 1))

-- w is v with the point of the new row in each old lane, whatever the costs: the points start at o and lie `across` apart
abbrev pub Pointed : List ℕ → ℕ → ℕ → Lanes → Lanes → Type 0
Pointed e o across v w =
    (n : ℕ) (cost : ℕ → ℕ) → LanesHold n cost v → LanesHold (n + 1) (λ j. cost j + unset e (o + j * across)) w

-- w is v one row on, whatever the costs: the points of the new row start at o and lie `across` apart
abbrev pub Advanced : List ℕ → ℕ → ℕ → Lanes → Lanes → Type 0
Advanced e o across v w =
    (n : ℕ) (cost : ℕ → ℕ) → Below n cost → LanesHold n cost v →
    LanesHold (n + 1) (onward (λ j. cost j + unset e (o + j * across))) w

-- the lanes of a place's strip walked down to row `row`: 5 and the steps, less the least cost
pub record Walked (E : ℕ → ℕ → Bool) (from : ℕ) (p : Place) (row : ℕ) (v : Lanes) : Type 0 where
  pub lanes : LanesHold (row - from + 5) (least_cost (on_strip E from p) p.lane (row - from)) v

-- the scores of m strips from column c on, all with target lane 2
abbrev pub swept_scores : (ℕ → ℕ → Bool) → ℕ → ℕ → ℕ → ℕ → List ℕ
swept_scores E from to c m = tab m (λ i. score E from to (at (c + i) 2))

-- the lanes of strip i in the states of a sweep
abbrev pub lanes_of : Strips → ℕ → Lanes
lanes_of st i =
    record { a = get_or st.a i 0; b = get_or st.b i 0; c = get_or st.c i 0; d = get_or st.d i 0; e = get_or st.e i 0 }

-- strip i has new lanes, the other strips are as they were
pub record Stored (before : Strips) (i : ℕ) (v : Lanes) (after : Strips) : Type 0 where
  pub new : lanes_of after i ≡ v
  pub old : (j : ℕ) → (j ≡ i → ⊥) → lanes_of after j ≡ lanes_of before j

-- the m strips from column c on, walked down to row `row`, all with target lane 2
pub record Swept (E : ℕ → ℕ → Bool) (from c m row : ℕ) (st : Strips) : Type 0 where
  pub strip : (i : ℕ) → i < m → Walked E from (at (c + i) 2) row (lanes_of st i)
