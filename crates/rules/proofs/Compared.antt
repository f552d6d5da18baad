-- A byte that the range reaches is tested, and any other passes.
use Rattle.std.proofs.Math.Decide.{dec_le}
use Rattle.std.proofs.Common.{ℕ, zero, suc, ◌-◌, ◌≤◌, ◌<◌, arith, ◌≡◌, refl, ap, ◌↔◌, true, eq-eqb, eqb-true, le-ltb, lt-ltb}
use Rattle.wire.specs.Bytes.{byte_at}
use Rattle.wire.specs.Choice.{both, either}
use Rattle.wire.proofs.Choice.{both_true}
use Rattle.rules.specs.declared.Address.{Address}
use Rattle.rules.specs.Address.{address_bytes, agree, LastEqual, same_address}

agree_is : (k n x y : ℕ) → k ≤ n → agree k n x y ≡ true → x ≡ y
unfolding agree either
agree_is k n x y h p = eqb-true x y (rw (le-ltb n k h) at p)

agree_when : (k n x y : ℕ) → (k ≤ n → x ≡ y) → agree k n x y ≡ true
unfolding agree either
agree_when k n x y h = go (dec_le k n)
  where
    go : Dec (k ≤ n) → agree k n x y ≡ true
    go (yes l) = rw (le-ltb n k l, eq-eqb x y (h l))
    go (no l) = let m : n < k = omega arith in rw (lt-ltb n k m)

module _ (n : ℕ) (a b : Address) where
  tested : (i : ℕ) → 6 - n ≤ i → agree 1 n a.mac6 b.mac6 ≡ true → agree 2 n a.mac5 b.mac5 ≡ true
      → agree 3 n a.mac4 b.mac4 ≡ true → agree 4 n a.mac3 b.mac3 ≡ true → agree 5 n a.mac2 b.mac2 ≡ true
      → agree 6 n a.mac1 b.mac1 ≡ true → byte_at (address_bytes a) i ≡ byte_at (address_bytes b) i
  tested zero l g1 g2 g3 g4 g5 g6 = agree_is 6 n _ _ (omega arith) g6
  tested (suc zero) l g1 g2 g3 g4 g5 g6 = agree_is 5 n _ _ (omega arith) g5
  tested (suc (suc zero)) l g1 g2 g3 g4 g5 g6 = agree_is 4 n _ _ (omega arith) g4
  tested (suc (suc (suc zero))) l g1 g2 g3 g4 g5 g6 = agree_is 3 n _ _ (omega arith) g3
  tested (suc (suc (suc (suc zero)))) l g1 g2 g3 g4 g5 g6 = agree_is 2 n _ _ (omega arith) g2
  tested (suc (suc (suc (suc (suc zero))))) l g1 g2 g3 g4 g5 g6 = agree_is 1 n _ _ (omega arith) g1
  tested (suc (suc (suc (suc (suc (suc i)))))) l g1 g2 g3 g4 g5 g6 = refl

  equal : same_address n a b ≡ true → LastEqual n (address_bytes a) (address_bytes b)
  unfolding same_address
  equal p i l =
      let t1 = both_true _ _ p in
      let t2 = both_true _ _ t1.1 in
      let t3 = both_true _ _ t2.1 in
      let t4 = both_true _ _ t3.1 in
      let t5 = both_true _ _ t4.1 in
      tested i l t1.0 t2.0 t3.0 t4.0 t5.0 t5.1

-- a MAC_address_range of n compares the last n bytes of an address, as it is printed, and no other
pub compares_last : (n : ℕ) (a b : Address) → (same_address n a b ≡ true) ↔ LastEqual n (address_bytes a) (address_bytes b)
unfolding same_address both
compares_last n a b = (
  equal n a b,
  λ h.
      rw (
        agree_when 1 n _ _ (λ l. h 5 (omega arith)),
        agree_when 2 n _ _ (λ l. h 4 (omega arith)),
        agree_when 3 n _ _ (λ l. h 3 (omega arith)),
        agree_when 4 n _ _ (λ l. h 2 (omega arith)),
        agree_when 5 n _ _ (λ l. h 1 (omega arith)),
        agree_when 6 n _ _ (λ l. h 0 (omega arith)),
      ),
)

-- a range of 6 compares all of an address
pub compares_all : (a b : Address) → (same_address 6 a b ≡ true) ↔ (a ≡ b)
compares_all a b = (
  λ p.
      let same : LastEqual 6 (address_bytes a) (address_bytes b) = (compares_last 6 a b).0 p in
      let mac1 : a.mac1 ≡ b.mac1 = same 0 (omega arith) in
      let mac2 : a.mac2 ≡ b.mac2 = same 1 (omega arith) in
      let mac3 : a.mac3 ≡ b.mac3 = same 2 (omega arith) in
      let mac4 : a.mac4 ≡ b.mac4 = same 3 (omega arith) in
      let mac5 : a.mac5 ≡ b.mac5 = same 4 (omega arith) in
      let mac6 : a.mac6 ≡ b.mac6 = same 5 (omega arith) in
      λ i. record { mac1 = mac1 i; mac2 = mac2 i; mac3 = mac3 i; mac4 = mac4 i; mac5 = mac5 i; mac6 = mac6 i },
  λ p. (compares_last 6 a b).1 (λ i l. ap (λ (x : Address). byte_at (address_bytes x) i) p),
)

-- an address is the same as itself in any range
pub same_self : (n : ℕ) (a : Address) → same_address n a a ≡ true
same_self n a = (compares_last n a a).1 (λ i l. refl)
