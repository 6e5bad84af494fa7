-- What a procedure that passes its checks comes to.
use Rattle.std.proofs.Common.{◌≡◌, ℕ, ◌+◌, ◌<◌, List, length, get_or, subst, w8, Fits}
use Rattle.std.proofs.lemmas.Bool.{ltb-true, and_parts}
use Rattle.layout.specs.declared.Procedure.{Procedure}
use Rattle.layout.specs.declared.Span.{Span}
use Rattle.layout.specs.Layout.{encode_block}
use Rattle.layout.specs.Folds.{highest_block}
use Rattle.layout.specs.Scope.{Scope}
use Rattle.layout.specs.Limits.{Sound}
use Rattle.layout.specs.Declarations.{proc, Contents, heights_of, steps_of, scope, proc_head}
use Rattle.layout.proofs.Sounds.{Holds, body_sound}
use Rattle.layout.proofs.Heights.{low_block}
use Rattle.package.specs.declared.bodies.Cost.{Cost}
use Rattle.package.specs.Walks.{WalkedBody}
use Rattle.package.specs.Declares.{Passes}
use Rattle.package.proofs.Turns.{bytes_all}

-- a procedure
module _ (s : Contents) (p : ℕ) (y : List ℕ) (at : ℕ) (ok-so-far : Passes s (proc p y)) where
  few_blocks : length s.spans < 256
  few_blocks = ltb-true (length s.spans) 256 (and_parts _ _ ok-so-far.limit).1

  module _ (c : Cost) (after : List Span) (h : WalkedBody (scope s) y (at + proc_head) s.spans after c) where
    pub low_body : ((i : ℕ) → Fits w8 (get_or y i 0)) → highest_block (scope s).heights h.tree < 8
    low_body small =
        let sound = subst (Holds (λ b. Sound (scope s) (length s.spans) (at + proc_head) b × (encode_block b ≡ y))) h.reads (body_sound (scope s) y (at + proc_head) (length s.spans) (bytes_all y small) few_blocks) in
        low_block (scope s) h.tree 0 (length s.spans) (at + proc_head) sound.0.fits

-- the scope that the code makes is that of what has been declared
pub in_scope : (s : Contents) (i p t d : ℕ) (ps : List Procedure) (y : List ℕ) (at : ℕ) (after : List Span) (c : Cost) → i ≡ length s.inputs → p ≡ length s.inputs + length s.cells → t ≡ length s.tables → d ≡ length s.needs → ps ≡ s.procedures → WalkedBody (record { inputs = i; places = p; tables = t; devices = d; heights = heights_of ps; steps = steps_of ps }) y at s.spans after c → WalkedBody (scope s) y at s.spans after c
in_scope s i p t d ps y at after c e f g h k w =
    let same : ◌≡◌ {A = Scope} (record { inputs = i; places = p; tables = t; devices = d; heights = heights_of ps; steps = steps_of ps }) (scope s) = rw (e, f, g, h, k) in
    subst (λ (x : Scope). WalkedBody x y at s.spans after c) same w
