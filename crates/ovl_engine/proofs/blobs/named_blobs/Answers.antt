use Rattle.std.proofs.Common.{◌∙◌, ℕ, ap, Vec, Global}
use Rattle.ovl_blobs.specs.Blobs.{blob_views}
use Rattle.ovl_engine.specs.NamedBlobs.{bytes_under}
use Rattle.ovl_engine.proofs.NamingLemmas.{blobs_in_order}
use Rattle.ovl_engine.proofs.blobs.named_blobs.Goals as goal

pub returns : goal.returns
returns c = record {
  in_order = blobs_in_order (λ (value : Vec ℕ Global). value.items) (blob_views c.in_ok-blobs.blobs.items) c.in_ok-named.named.entries c.in_ok-blobs.ensures.same c.in_ok-blobs.ensures.ordered;
  firsts = λ digest. ap (bytes_under digest) c.in_ok-blobs.ensures.same ∙ c.in_ok-named.ensures digest;
}
