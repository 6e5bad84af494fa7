use Rattle.std.proofs.Common.{◌≡◌, ℕ, List, vec_items, sym, ap, ◌∙◌, subst, arith}
use Rattle.std.proofs.lemmas.Result.{err_from_is_err_and}
use Rattle.layout.specs.Bytes.{are_bytes}
use Rattle.layout.specs.Reading.{ok}
use Rattle.layout.specs.Packages.{Keeps, encode, accepts, declarations, held}
use Rattle.layout.proofs.Numbers.{bytes_test}
use Rattle.package.proofs.Turns.{bytes_all}
use Rattle.package.proofs.Ends.{refused_exactly, refused_read, accepted, read_as, keeps, held_all, lawful_bytes}
use Rattle.package.proofs.load.Goals as goal

pub returns-in_err-contents : goal.returns-in_err-contents
returns-in_err-contents c =
    let p = err_from_is_err_and c.from_residual.result c.from_residual.ensures.1 in
    let r = refused_read c.args.bytes.now c.type_inv.bytes (omega (arith, c.if-bytes-gt-LONGEST.false)) _ c.in_err-contents.ensures in
    rw (p.1, p.2) (record { reads = r; exactly = refused_exactly c.args.bytes.now c.type_inv.bytes _ r; lawful = tt })

pub invariant_of-result : goal.invariant_of-result
invariant_of-result c =
    let copy = c.in_ok-bytes.ensures.items in
    let h = c.in_ok-contents.ensures in
    let a = accepted c.args.bytes.now c.type_inv.bytes (omega (arith, c.if-bytes-gt-LONGEST.false)) h.all h.reads in
    let d = held_all c.args.bytes.now c.type_inv.bytes (omega (arith, c.if-bytes-gt-LONGEST.false)) h.all h.reads _ h.holds in
    record {
      octets = ap are_bytes copy ∙ bytes_test c.args.bytes.now (bytes_all c.args.bytes.now c.type_inv.bytes);
      accepted = ap accepts copy ∙ a;
      declares = d ∙ ap held (sym copy);
    }

pub returns : goal.returns
returns c =
    let copy : vec_items c.in_ok-bytes.bytes ≡ c.args.bytes.now = c.in_ok-bytes.ensures.items in
    let h = c.in_ok-contents.ensures in
    let r = read_as c.args.bytes.now c.type_inv.bytes (omega (arith, c.if-bytes-gt-LONGEST.false)) h.all h.reads in
    let k = keeps c.args.bytes.now c.type_inv.bytes (omega (arith, c.if-bytes-gt-LONGEST.false)) h.all h.reads in
    record {
      reads = (copy, r ∙ ap (λ (xs : List ℕ). ok (declarations xs)) (sym copy));
      exactly = subst (λ (xs : List ℕ). Keeps (declarations xs) × (encode (declarations xs) ≡ c.args.bytes.now)) (sym copy) k;
      lawful = lawful_bytes (vec_items c.in_ok-bytes.bytes) (subst (λ (xs : List ℕ). Keeps (declarations xs) × (encode (declarations xs) ≡ xs)) (sym copy) k);
    }
