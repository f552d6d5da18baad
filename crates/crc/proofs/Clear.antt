-- A word may be taken away if it is added to later words as a multiple of the polynomial says: all of it leaves zero.
use mathlib.Core.Path.{◌≡◌, refl, sym, ap, ap₂, ◌∙◌}
use mathlib.Core.List.{List, [], ◌∷◌, ◌++◌}
use Prim.Native.Nat.{ℕ, zero, suc, ◌*◌, ◌/◌, ◌%◌, ◌^◌, ◌-◌, ◌≤◌, ◌<◌}
use native.Mathlib.Nat.{mod-lt, mod-eq_of_lt, le_of_suc-le-suc, not-suc-le-zero}
use native.Mathlib.Omega.{arith}
use lib.ListN.{length, take, drop, length-drop}
use lib.Bits.{bit_xor, xor_zero_r, xor_self, xor_mod}
use lib.Pow.{pow_pos}
use Rattle.wire.proofs.Lists.{from}
use Rattle.rules.specs.Crc.{crc_bits}
use Rattle.rules.proofs.Crc.{xor_four, crc_bits_lt, crc_bits_add}
use Rattle.crc.specs.Words.{number, words, crc_words, crc_after}
use Rattle.crc.proofs.Shifts.{Shift, up, moved, moved_add, added, added_add, added_apart, product, product_add}
use Rattle.crc.proofs.Shifts.{Adds, at_bits, vanishes, xor_eq}
use Rattle.crc.proofs.Basis.{put, leaves, barrett, barrett_error, barrett_right, enter_error, enter_right}

pub none : 0 < 2 ^ 32
none = pow_pos 32

-- ---- what was computed at each bit, for every word
pub bits_add : (k : ℕ) → Adds (crc_bits k 0)
bits_add k a b = crc_bits_add k 0 0 a b none none

xor_add : (f g : ℕ → ℕ) → Adds f → Adds g → Adds (λ v. bit_xor (f v) (g v))
xor_add f g ef eg a b = ap₂ bit_xor (ef a b) (eg a b) ∙ xor_four (f a) (f b) (g a) (g b)

pub reduces : (v : ℕ) → v < 2 ^ 64 → product barrett v % 2 ^ 32 ≡ crc_bits 64 0 v
unfolding barrett_error
reduces v h =
    xor_eq _ _
    (vanishes barrett_error
    (xor_add (λ v. product barrett v % 2 ^ 32) (crc_bits 64 0)
    (λ a b. ap (λ x. x % 2 ^ 32) (product_add barrett a b) ∙ xor_mod (product barrett a) (product barrett b) 32)
    (bits_add 64))
    64 barrett_right v h)

put_add : (mss : List (List Shift)) (a b u v : ℕ) → a < 2 ^ 32 → b < 2 ^ 32
    → put mss (bit_xor a b) (bit_xor u v) ≡ bit_xor (put mss a u) (put mss b v)
unfolding put
put_add [] a b u v ha hb = refl
put_add (ms ∷ mss) a b u v ha hb =
    ap (λ x. put mss (crc_bits 64 (bit_xor a b) x) (bit_xor u v)) (added_add ms 0 0 u v)
    ∙ ap (λ c. put mss c (bit_xor u v)) (crc_bits_add 64 a b (added 0 ms u) (added 0 ms v) ha hb)
    ∙ put_add mss (crc_bits 64 a (added 0 ms u)) (crc_bits 64 b (added 0 ms v)) u v
    (crc_bits_lt 64 a _ ha) (crc_bits_lt 64 b _ hb)

leaves_add : (mss : List (List Shift)) → Adds (leaves mss)
unfolding leaves
leaves_add mss a b =
    ap (λ c. put mss c (bit_xor a b)) (bits_add 64 a b)
    ∙ put_add mss (crc_bits 64 0 a) (crc_bits 64 0 b) a b (crc_bits_lt 64 0 a none) (crc_bits_lt 64 0 b none)

alone : (y : ℕ) → y < 2 ^ 32 → crc_bits 64 y 0 ≡ crc_bits 64 0 (moved (up 32) y)
unfolding enter_error
alone y h =
    ap (λ x. crc_bits 64 x 0) (sym (mod-eq_of_lt h))
    ∙ xor_eq _ _
    (vanishes enter_error
    (xor_add (λ c. crc_bits 64 (c % 2 ^ 32) 0) (λ c. crc_bits 64 0 (moved (up 32) c))
    (λ a b. ap (λ x. crc_bits 64 x 0) (xor_mod a b 32)
    ∙ crc_bits_add 64 (a % 2 ^ 32) (b % 2 ^ 32) 0 0 (mod-lt a (pow_pos 32)) (mod-lt b (pow_pos 32)))
    (λ a b. ap (crc_bits 64 0) (moved_add (up 32) a b) ∙ bits_add 64 (moved (up 32) a) (moved (up 32) b)))
    32 enter_right y h)

-- a register goes in as the 32 high bits of the next word
pub enter : (c y w : ℕ) → c < 2 ^ 32 → y < 2 ^ 32
    → crc_bits 64 (bit_xor c y) w ≡ crc_bits 64 c (bit_xor w (moved (up 32) y))
enter c y w hc hy =
    ap (crc_bits 64 (bit_xor c y)) (sym (xor_zero_r w)) ∙ crc_bits_add 64 c y w 0 hc hy
    ∙ ap (bit_xor (crc_bits 64 c w)) (alone y hy) ∙ sym (crc_bits_add 64 c 0 w (moved (up 32) y) hc none)
    ∙ ap (λ x. crc_bits 64 x (bit_xor w (moved (up 32) y))) (xor_zero_r c)

-- ---- a word is taken away
-- the zs with what v adds to each
unfoldable pub spread : List (List Shift) → List ℕ → ℕ → List ℕ
spread [] zs v = zs
spread (ms ∷ mss) [] v = added 0 ms v ∷ spread mss [] v
spread (ms ∷ mss) (z ∷ zs) v = added z ms v ∷ spread mss zs v

module _ (v : ℕ) where
  cancel : (mss : List (List Shift)) (zs ws : List ℕ) (c d : ℕ) → c < 2 ^ 32 → d < 2 ^ 32 → length mss ≤ length ws
      → put mss d v ≡ 0 → crc_words (bit_xor c d) (spread mss zs v) ws ≡ crc_words c zs ws
  unfolding put spread crc_words
  cancel [] zs ws c d hc hd h e = ap (λ x. crc_words (bit_xor c x) zs ws) e ∙ ap (λ x. crc_words x zs ws) (xor_zero_r c)
  cancel (ms ∷ mss) zs [] c d hc hd h e = absurd (not-suc-le-zero h)
  cancel (ms ∷ mss) [] (w ∷ ws) c d hc hd h e =
      ap (λ x. crc_words x (spread mss [] v) ws) (crc_bits_add 64 c d w (added 0 ms v) hc hd)
      ∙ cancel mss [] ws _ _ (crc_bits_lt 64 c w hc) (crc_bits_lt 64 d _ hd) (le_of_suc-le-suc h) e
  cancel (ms ∷ mss) (z ∷ zs) (w ∷ ws) c d hc hd h e =
      ap (λ x. crc_words (crc_bits 64 (bit_xor c d) x) (spread mss zs v) ws)
      (sym (added_apart ms w z v) ∙ ap (λ x. added x ms v) (sym (xor_zero_r (bit_xor w z)))
      ∙ added_apart ms (bit_xor w z) 0 v)
      ∙ ap (λ x. crc_words x (spread mss zs v) ws) (crc_bits_add 64 c d (bit_xor w z) (added 0 ms v) hc hd)
      ∙ cancel mss zs ws _ _ (crc_bits_lt 64 c _ hc) (crc_bits_lt 64 d _ hd) (le_of_suc-le-suc h) e

length_words : (n : ℕ) (s : List ℕ) → length (words n s) ≡ n
unfolding words
length_words zero s = refl
length_words (suc n) s = ap suc (length_words n (drop 8 s))

pub first_word : (s : List ℕ) → 8 ≤ length s
    → words (length s / 8) s ≡ number 8 s ∷ words (length (drop 8 s) / 8) (drop 8 s)
unfolding words
first_word s h =
    let e : length s / 8 ≡ suc (length (drop 8 s) / 8) = omega (arith, length-drop 8 s, h) in
    ap (λ n. words n s) e

-- ---- what holds at each turn: a word v before the bytes s, with the zs still to be added, gives r
abbrev pub Stands : ℕ → List ℕ → List ℕ → ℕ → Type 0
Stands v zs s r = (8 ≤ length s) × (v < 2 ^ 64) × (crc_after v zs s ≡ r)

pub turn : (mss : List (List Shift)) → at_bits (leaves mss) 64 ≡ 0 → (v : ℕ) (zs ys s : List ℕ) {r x y : ℕ}
    → Stands v zs s r → 16 ≤ length s → length mss * 8 ≤ length s → spread mss zs v ≡ y ∷ ys
    → (x ≡ bit_xor (number 8 s) y) × (x < 2 ^ 64) → Stands x ys (take (length s - 8) (drop 8 s)) r
unfolding crc_after leaves crc_words
turn mss basis v zs ys s {r} {x} {y} (h8, hv, g) h16 h e (ex, hx) =
    let c : ℕ = crc_bits 64 0 v in
    let small : c < 2 ^ 32 = crc_bits_lt 64 0 v none in
    let ws : List ℕ = words (length s / 8) s in
    let fits : length mss ≤ length ws = omega (arith, h, length_words (length s / 8) s) in (
      omega (arith, h16, ap length (from 8 s), length-drop 8 s),
      hx,
      ap₂ (λ x t. crc_after x ys t) ex (from 8 s) ∙ sym (ap (crc_words 0 (y ∷ ys)) (first_word s h8))
          ∙ ap (λ l. crc_words 0 l ws) (sym e) ∙ ap (λ x. crc_words x (spread mss zs v) ws) (sym (xor_self c))
          ∙ cancel v mss zs ws c c small small fits (vanishes (leaves mss) (leaves_add mss) 64 basis v hv) ∙ g,
    )

zero_last : (zs ws : List ℕ) (c : ℕ) → crc_words c (zs ++ (0 ∷ [])) ws ≡ crc_words c zs ws
unfolding crc_words
zero_last [] [] c = refl
zero_last [] (w ∷ ws) c = ap (λ x. crc_words (crc_bits 64 c x) [] ws) (xor_zero_r w)
zero_last (z ∷ zs) [] c = refl
zero_last (z ∷ zs) (w ∷ ws) c = zero_last zs ws (crc_bits 64 c (bit_xor w z))

-- zero may be added to one word more
pub one_more : (v : ℕ) (zs s : List ℕ) {r : ℕ} → Stands v zs s r → Stands v (zs ++ (0 ∷ [])) s r
unfolding crc_after
one_more v zs s (h8, hv, g) = (h8, hv, zero_last zs (words (length s / 8) s) (crc_bits 64 0 v) ∙ g)

-- ---- one word is left
pub last_word : (v z : ℕ) (zs s : List ℕ) {r c x : ℕ} → Stands v (z ∷ zs) s r → length s < 16
    → c ≡ crc_bits 64 0 v → x ≡ bit_xor (number 8 s) z → crc_bits 64 0 (bit_xor x (moved (up 32) c)) ≡ r
unfolding crc_after crc_words words
last_word v z zs s {r} {c} {x} (h8, hv, g) h16 ec ex =
    let one : length s / 8 ≡ 1 = omega (arith, h8, h16) in
    ap₂ (λ c x. crc_bits 64 0 (bit_xor x (moved (up 32) c))) ec ex
    ∙ sym (enter 0 (crc_bits 64 0 v) (bit_xor (number 8 s) z) none (crc_bits_lt 64 0 v none))
    ∙ ap (λ n. crc_words (crc_bits 64 0 v) (z ∷ zs) (words n s)) (sym one) ∙ g
