use Rattle.std.proofs.Common.{◌≡◌, ℕ, ◌-◌, Bool, true, List, length, take, replicate, ap, ◌∙◌, subst, arith}
use Rattle.bits.specs.Bits.{lettered, ones}
use Rattle.bits.proofs.Letters.{length_lettered}
use Rattle.packed.proofs.Packing.{length_packed}
use Rattle.std.specs.List.{flat_map}
use Rattle.std.proofs.lemmas.Result.{IfOk-weaker}
use Rattle.packing.specs.Packs.{PackedInto, bytes_for}
use Rattle.packing.specs.Reports.{hex_byte, text_of_sizes}
use Rattle.packing.proofs.report.load_text.Goals as goal

-- the same numbers and digits make the same lines
same_lines : (b b' o o' u u' : ℕ) (d d' : List ℕ) (s s' : Bool) → b ≡ b' → o ≡ o' → u ≡ u' → d ≡ d' → s ≡ s' → text_of_sizes b o u d s ≡ text_of_sizes b' o' u' d' s'
same_lines b b' o o' u u' d d' s s' f g h i j =
    ap (λ x. text_of_sizes x o u d s) f ∙ ap (λ x. text_of_sizes b' x u d s) g ∙ ap (λ x. text_of_sizes b' o' x d s) h ∙ ap (λ x. text_of_sizes b' o' u' x s) i ∙ ap (λ x. text_of_sizes b' o' u' d' x) j

pub unreachable-requires : goal.unreachable-requires
unreachable-requires c = omega (arith, c.in_default.ensures.0, length_lettered c.args.letters.now)

pub slice_bounds-hex-end : goal.slice_bounds-hex-end
slice_bounds-hex-end c = omega (arith, c.measure-sizes.ensures.bytes, length_packed c.pack.new.bytes c.in-Ok.count, c.pack.auto.bytes)

pub returns : goal.returns
returns c =
    let bs = lettered c.args.letters.now in
    let n = c.in-Ok.count in
    let bytes = c.pack.new.bytes in
    let into : PackedInto bs n (replicate 4096 0) bytes = c.in-Ok.ensures in
    let same : c.same_bits.result ≡ true = c.same_bits.ensures.1 into.tape in
    let bits : c.measure-sizes.result.bits ≡ length bs = c.measure-sizes.ensures.bits ∙ ap length into.tape in
    let tally : c.measure-sizes.result.ones ≡ ones bs = c.measure-sizes.ensures.ones ∙ ap ones into.tape in
    let used : c.measure-sizes.result.bytes ≡ bytes_for (length bs) = c.measure-sizes.ensures.bytes ∙ ap (λ (x : List _). bytes_for (length x)) into.tape in
    let digits : c.as_str.result.now ≡ flat_map hex_byte (take (bytes_for (length bs)) bytes) = c.as_str.ensures.value ∙ c.in_ok-digits.ensures ∙ ap (λ k. flat_map hex_byte (take k bytes)) (let z : c.measure-sizes.result.bytes - 0 ≡ bytes_for (length bs) = omega (arith, used) in z) in
    IfOk-weaker c.sizes_text.result _ _
    (λ t e. (bytes, (subst (λ (k : ℕ). PackedInto bs k (replicate 4096 0) bytes) into.count into, e ∙ same_lines _ (length bs) _ (ones bs) _ (bytes_for (length bs)) _ (flat_map hex_byte (take (bytes_for (length bs)) bytes)) _ true bits tally used digits same)))
    c.sizes_text.ensures
