-- What every package keeps.
use Rattle.std.proofs.Common.{◌≡◌, ℕ, List, vec_items, subst}
use Rattle.layout.specs.Bytes.{Bytes}
use Rattle.layout.specs.Packages.{Keeps, encode, contents, held}
use Rattle.layout.specs.Accepted.{bodies, Lawful}
use Rattle.layout.proofs.Numbers.{bytes_tested}
use Rattle.layout.proofs.Accepts.{accepted_exactly_lem, read_accepted}
use Rattle.layout.proofs.Lawful.{accepted_lawful_lem}
use Rattle.package.specs.Loads.{tree_of}
use Rattle.package.specs.declared.held.Package.{Package}
use Rattle.package.specs.Declares.{contents_of}

-- the bytes of a package are bytes, and its declarations keep the laws
pub octets : (p : Package) → Bytes (vec_items p.bytes)
octets p = bytes_tested (vec_items p.bytes) p.octets

pub kept : (p : Package) → Keeps (tree_of p) × (encode (tree_of p) ≡ vec_items p.bytes)
kept p = (accepted_exactly_lem (vec_items p.bytes) (tree_of p) (octets p)).0 (read_accepted (vec_items p.bytes) p.accepted)

pub lawful : (p : Package) → Lawful (vec_items p.bytes) (contents (tree_of p)) (bodies (tree_of p))
lawful p = subst (λ (xs : List ℕ). Lawful xs (contents (tree_of p)) (bodies (tree_of p))) (kept p).1 (accepted_lawful_lem (tree_of p) (kept p).0)

-- what a package holds is what its declarations add up to
pub holds : (p : Package) → contents_of p.contents ≡ contents (tree_of p)
unfolding held
holds p = p.declares
