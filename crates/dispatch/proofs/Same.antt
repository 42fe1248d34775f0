-- A call by a width, rounds and five texts, and one by what a segment is sealed with, gives the same where all of these are the same.
-- Assumes nothing.
use mathlib.Core.Path.{◌≡◌, ap, ap₂, ◌∙◌}
use mathlib.Core.List.{List}
use Prim.Native.Nat.{ℕ}
use Rattle.places.specs.declared.terms.Terms.{Terms}

pub by_same : {A : Type 0} (f : ℕ → ℕ → List ℕ → List ℕ → List ℕ → List ℕ → List ℕ → A) {w w' l l' : ℕ} {k k' n n' a a' d d' z z' : List ℕ}
    → w ≡ w' → l ≡ l' → k ≡ k' → n ≡ n' → a ≡ a' → d ≡ d' → z ≡ z' → f w l k n a d z ≡ f w' l' k' n' a' d' z'
by_same f {w} {w'} {l} {l'} {k} {k'} {n} {n'} {a} {a'} {d} {d'} {z} {z'} w= l= k= n= a= d= z= =
    ap₂ (λ (x y : ℕ). f x y k n a d z) w= l= ∙ ap₂ (λ (x y : List ℕ). f w' l' x y a d z) k= n= ∙ ap₂ (λ (x y : List ℕ). f w' l' k' n' x y z) a= d=
    ∙ ap (f w' l' k' n' a' d') z=

pub by_same_job : {A : Type 0} (f : ℕ → List ℕ → List ℕ → Terms → List ℕ → List ℕ → A) {w w' : ℕ} {k k' n n' a a' d d' : List ℕ} {T T' : Terms}
    → w ≡ w' → k ≡ k' → n ≡ n' → T ≡ T' → a ≡ a' → d ≡ d' → f w k n T a d ≡ f w' k' n' T' a' d'
by_same_job f {w} {w'} {k} {k'} {n} {n'} {a} {a'} {d} {d'} {T} {T'} w= k= n= T= a= d= =
    ap₂ (λ (x : ℕ) (y : Terms). f x k n y a d) w= T= ∙ ap₂ (λ (x y : List ℕ). f w' x y T' a d) k= n= ∙ ap₂ (f w' k' n' T') a= d=
