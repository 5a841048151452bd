use Rattle.claims.proofs.AutoloadStores.{autoload_stores}
use Rattle.claims.proofs.autoload_stores.Goals as goal

pub returns : goal.returns
returns c = autoload_stores
