pub mod Laws
pub mod OneMore
